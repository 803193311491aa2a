use Rattle.std.proofs.Common.{◌≡◌, ◌++◌, drop}
use Rattle.swap_base.specs.Text.{lines}
use Rattle.run_texts.specs.Report.{party_line}
use Rattle.run_texts.proofs.findings.put_parties.Given as goal

abbrev pub invariant-loop-number : goal.invariant-loop-number
invariant-loop-number l = l.out.items ++ lines (party_line l.names l.conforming l.has_ended) l.number (drop l.number l.outcomes) ≡ l.fn.out.items ++ lines
    (party_line l.names l.conforming l.has_ended) 0 l.outcomes
