use Rattle.party_terms.specs.Text.{until_text}
use Rattle.party_terms.proofs.lines.put_until.Goals as goal

pub returns : goal.returns
unfolding until_text
returns c = rw (c.last_opening.ensures, c.claim_deadline.ensures) at c.put.ensures
