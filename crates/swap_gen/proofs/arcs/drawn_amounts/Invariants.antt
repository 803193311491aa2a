use Rattle.std.proofs.Common.{◌≡◌, ◌+◌, ◌*◌, map}
use Rattle.std.specs.List.{range_with_len}
use Rattle.swap_gen.specs.Drawn.{drawn_amount}
use Rattle.swap_gen.proofs.arcs.drawn_amounts.Given as goal

abbrev pub invariant-loop-a : goal.invariant-loop-a
invariant-loop-a l = (l.amounts.items ≡ map (drawn_amount l.fn.draws.seed l.parties) (range_with_len 0 l._a))
    × (l.draws ≡ record l.fn.draws { place = 1 + 2 * l.parties + l._a })
