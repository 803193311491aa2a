use Rattle.party_terms.specs.Text.{awake_line}
use Rattle.party_terms.proofs.lines.put_awake.Goals as goal

pub returns : goal.returns
unfolding awake_line
returns c = rw c.awake_height.ensures at c.put.ensures
