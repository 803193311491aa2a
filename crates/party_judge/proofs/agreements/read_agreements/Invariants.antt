use Rattle.std.proofs.Common.{◌≡◌, length}
use Rattle.party_judge.specs.Agreements.{further_agreements}
use Rattle.party_judge.proofs.agreements.read_agreements.Given as goal

abbrev pub invariant-lines : goal.invariant-lines
invariant-lines l = further_agreements l.names l.digest l.first l.fn.lines ≡ further_agreements l.names l.digest l.number l.lines

abbrev pub decreases-lines : goal.decreases-lines
decreases-lines l = length l.lines
