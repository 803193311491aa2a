use Rattle.std.proofs.Common.{◌≡◌, ◌++◌, drop}
use Rattle.swap_base.specs.Text.{lines}
use Rattle.swap_clear.specs.ClearedText.{left_out_line}
use Rattle.swap_clear.proofs.text.put_all_left_out.Given as goal

abbrev pub invariant-loop-arc : goal.invariant-loop-arc
invariant-loop-arc l =
    l.out.items ++ lines (left_out_line l.names) l.arc-index (drop l.arc-index l.arcs) ≡ l.fn.out.items ++ lines (left_out_line l.names) 0 l.arcs
