use Rattle.std.proofs.Common.{◌≡◌, map}
use Rattle.std.specs.List.{range_with_len}
use Rattle.swap_gen.specs.Made.{seed_keys}
use Rattle.swap_gen.proofs.seeds.seed_rows.Given as goal

abbrev pub invariant-parties : goal.invariant-parties
invariant-parties l = l.rows.items ≡ map (seed_keys l.seeds l.deal) (range_with_len 0 l.p)
