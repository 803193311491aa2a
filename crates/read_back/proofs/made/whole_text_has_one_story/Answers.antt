use Rattle.read_back.proofs.Stories as stories
use Rattle.read_back.proofs.made.whole_text_has_one_story.Goals as goal

pub returns : goal.returns
returns c = stories.whole_text_has_one_story
