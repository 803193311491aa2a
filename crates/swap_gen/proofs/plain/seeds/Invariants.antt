use Rattle.std.proofs.Common.{◌≡◌, map, Some}
use Rattle.std.specs.List.{range_with_len}
use Rattle.swap_gen.specs.Drawn.{drawn_seed}
use Rattle.swap_gen.proofs.plain.seeds.Given as goal

abbrev pub invariant-loop-p : goal.invariant-loop-p
invariant-loop-p l = l.seeds.items ≡ map (λ i. Some (drawn_seed l.seed i)) (range_with_len 0 l.p)
