use Rattle.std.proofs.Common.{◌≡◌, ◌+◌, ◌*◌}
use Rattle.swap_gen.specs.Drawn.{drawn_arcs_so_far}
use Rattle.swap_gen.proofs.arcs.drawn_arcs.Given as goal

abbrev pub invariant-loop-k : goal.invariant-loop-k
invariant-loop-k l = (l.arcs.items ≡ drawn_arcs_so_far l.fn.draws.seed l.parties l._k) × (l.draws ≡ record l.fn.draws { place = 1 + 2 * l._k })
