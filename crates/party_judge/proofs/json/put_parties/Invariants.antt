use Rattle.std.proofs.Common.{◌≡◌, ◌++◌, drop}
use Rattle.swap_base.specs.Text.{lines}
use Rattle.party_judge.specs.Json.{json_party}
use Rattle.party_judge.proofs.json.put_parties.Given as goal

abbrev pub invariant-loop-number : goal.invariant-loop-number
invariant-loop-number l = l.out.items ++ lines (json_party l.names l.conforming l.ended) l.number (drop l.number l.outcomes) ≡ l.fn.out.items ++ lines
    (json_party l.names l.conforming l.ended) 0 l.outcomes
