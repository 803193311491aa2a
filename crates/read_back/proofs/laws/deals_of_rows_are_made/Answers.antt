use Rattle.read_back.proofs.Whole.{deals_of_rows_are_made}
use Rattle.read_back.proofs.laws.deals_of_rows_are_made.Goals as goal

pub returns : goal.returns
returns c = deals_of_rows_are_made
