use Rattle.std.proofs.Common.{◌≡◌, ◌<◌, ℕ, map, take}
use Rattle.swap_run.specs.Laws.{IsReadyCast}
use Rattle.swap_world.specs.Value.{world_cast}
use Rattle.swap_many.specs.Opening.{none_swept}
use Rattle.swap_many.specs.Ticking.{nth}
use Rattle.swap_many.proofs.opening.none_swept.Given as goal

abbrev pub invariant-swaps : goal.invariant-swaps
invariant-swaps l = (l.all.items ≡ map none_swept (take l.world-index l.worlds)) × ((s : ℕ) → s < l.world-index → IsReadyCast (world_cast (nth l.worlds s)))
