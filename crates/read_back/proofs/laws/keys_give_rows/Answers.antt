use Rattle.read_back.proofs.Whole.{keys_give_rows}
use Rattle.read_back.proofs.laws.keys_give_rows.Goals as goal

pub returns : goal.returns
returns c = keys_give_rows
