use Rattle.transcript_book.proofs.Stories as stories
use Rattle.transcript_book.proofs.one_story.Goals as goal

pub returns : goal.returns
returns c = stories.one_story
