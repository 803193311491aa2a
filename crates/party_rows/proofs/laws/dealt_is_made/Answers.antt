use Rattle.party_rows.proofs.Making.{dealt_is_made}
use Rattle.party_rows.proofs.laws.dealt_is_made.Goals as goal

pub returns : goal.returns
returns c = dealt_is_made
