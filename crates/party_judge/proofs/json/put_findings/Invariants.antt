use Rattle.std.proofs.Common.{◌≡◌, ◌++◌, drop}
use Rattle.swap_base.specs.Text.{lines}
use Rattle.party_judge.specs.Json.{json_finding}
use Rattle.party_judge.proofs.json.put_findings.Given as goal

abbrev pub invariant-loop-number : goal.invariant-loop-number
invariant-loop-number l = l.out.items ++ lines (json_finding l.names l.deal l.ended) l.number (drop l.number l.findings) ≡ l.fn.out.items ++ lines
    (json_finding l.names l.deal l.ended) 0 l.findings
