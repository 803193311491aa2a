use Rattle.std.proofs.Common.{◌≡◌, ◌++◌, drop}
use Rattle.swap_base.specs.Text.{lines}
use Rattle.swap_clear.specs.ClearedText.{cycle_line}
use Rattle.swap_clear.proofs.group.put_cycles.Given as goal

abbrev pub invariant-loop-cycle : goal.invariant-loop-cycle
invariant-loop-cycle l =
    l.out.items ++ lines (cycle_line l.names) l.cycle-index (drop l.cycle-index l.cycles) ≡ l.fn.out.items ++ lines (cycle_line l.names) 0 l.cycles
