use Rattle.read_back.proofs.Generated as made
use Rattle.read_back.proofs.made.generated_text_is_read_back.Goals as goal

pub returns : goal.returns
returns c = made.generated_text_is_read_back
