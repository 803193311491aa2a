use Rattle.std.proofs.Common.{◌≡◌, filter, map, not}
use Rattle.std.specs.List.{range_with_len}
use Rattle.swap_clear.specs.Groups.{is_cyclic, left_out}
use Rattle.swap_clear.proofs.left_out.left_out.Given as goal

abbrev pub invariant-loop-number : goal.invariant-loop-number
invariant-loop-number l = l.list.items ≡ map (left_out l.graph) (filter (λ a. not (is_cyclic l.graph a)) (range_with_len 0 l.number))
