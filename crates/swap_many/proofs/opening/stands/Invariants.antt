use Rattle.std.proofs.Common.{◌≡◌, ◌==◌, filter, slice_index_or}
use Rattle.std.specs.List.{range_with_len}
use Rattle.swap_many.specs.Chains.{nowhere}
use Rattle.swap_many.proofs.opening.stands.Given as goal

abbrev pub invariant-arcs : goal.invariant-arcs
invariant-arcs l = l.on.items ≡ filter (λ a. (slice_index_or l.places a nowhere).chain == l.chain) (range_with_len 0 l.arc)
