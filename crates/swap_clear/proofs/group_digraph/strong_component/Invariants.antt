use Rattle.std.proofs.Common.{◌≡◌, ◌&&◌, filter}
use Rattle.std.specs.List.{range_with_len}
use Rattle.digraph_check.specs.Reach.{reaches}
use Rattle.swap_clear.proofs.group_digraph.strong_component.Given as goal

abbrev pub invariant-loop-w : goal.invariant-loop-w
invariant-loop-w l = l.parties.items ≡ filter (λ w. reaches l.graph l.v w && reaches l.graph w l.v) (range_with_len 0 l.w)
