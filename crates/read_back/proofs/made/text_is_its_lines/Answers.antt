use Rattle.read_back.proofs.Lines as lines
use Rattle.read_back.proofs.made.text_is_its_lines.Goals as goal

pub returns : goal.returns
returns c = lines.text_is_its_lines
