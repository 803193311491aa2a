use Rattle.std.proofs.Common.{◌≡◌, filter}
use Rattle.std.specs.List.{range_with_len}
use Rattle.digraph_check.specs.Reach.{reaches}
use Rattle.swap_clear.proofs.left_out.reachable_parties.Given as goal

abbrev pub invariant-loop-w : goal.invariant-loop-w
invariant-loop-w l = l.parties.items ≡ filter (λ w. reaches l.graph l.v w) (range_with_len 0 l.w)
