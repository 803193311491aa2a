use Rattle.party_rows.proofs.Making.{dealt_line_is_made}
use Rattle.party_rows.proofs.laws.dealt_line_is_made.Goals as goal

pub returns : goal.returns
returns c = dealt_line_is_made
