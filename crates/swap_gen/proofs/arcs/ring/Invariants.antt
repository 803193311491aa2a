use Rattle.std.proofs.Common.{◌≡◌, map}
use Rattle.std.specs.List.{range_with_len}
use Rattle.swap_gen.specs.Drawn.{ring_arc}
use Rattle.swap_gen.proofs.arcs.ring.Given as goal

abbrev pub invariant-loop-from : goal.invariant-loop-from
invariant-loop-from l = l.arcs.items ≡ map (ring_arc l.parties) (range_with_len 0 l.from)
