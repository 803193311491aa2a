use Rattle.read_back.proofs.Lines as lines
use Rattle.read_back.proofs.made.text_has_one_story.Goals as goal

pub returns : goal.returns
returns c = lines.text_has_one_story
