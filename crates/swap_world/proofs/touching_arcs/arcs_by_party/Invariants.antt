use Rattle.std.proofs.Common.{◌≡◌, map}
use Rattle.std.specs.List.{range_with_len}
use Rattle.swap_run.specs.Fair.{adjacent_arcs}
use Rattle.swap_world.proofs.touching_arcs.arcs_by_party.Given as goal

abbrev pub invariant-parties : goal.invariant-parties
invariant-parties l = l.all.items ≡ map (adjacent_arcs l.deal) (range_with_len 0 l.p)
