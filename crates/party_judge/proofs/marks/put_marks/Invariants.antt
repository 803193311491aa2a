use Rattle.std.proofs.Common.{◌≡◌, ◌++◌, drop}
use Rattle.swap_base.specs.Text.{lines}
use Rattle.party_judge.specs.Marks.{mark_line}
use Rattle.party_judge.proofs.marks.put_marks.Given as goal

abbrev pub invariant-loop-number : goal.invariant-loop-number
invariant-loop-number l = l.out.items ++ lines (mark_line l.deal l.ended) l.number (drop l.number l.findings) ≡ l.fn.out.items ++ lines
    (mark_line l.deal l.ended) 0 l.findings
