use Rattle.swap_clear.specs.Rows.{TellsBoundedReach}
use Rattle.swap_clear.proofs.reach.reach_rows.Given as goal

abbrev pub invariant-loop-round : goal.invariant-loop-round
invariant-loop-round l = TellsBoundedReach l.graph l._round l.row.items
