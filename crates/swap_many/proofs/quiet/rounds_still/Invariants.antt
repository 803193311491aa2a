use Rattle.std.proofs.Common.{ℕ, ◌<◌, ◌≤◌}
use Rattle.swap_world.specs.Quiet.{IsQuietState}
use Rattle.swap_world.specs.Value.{world_cast}
use Rattle.swap_many.specs.Ticking.{nth}
use Rattle.swap_many.proofs.quiet.rounds_still.Given as goal

abbrev pub invariant-swaps : goal.invariant-swaps
invariant-swaps l = record {
  few : l.rounds ≤ l.most;
  still : 0 < l.rounds → (s : ℕ) → s < l.s → IsQuietState (world_cast (nth l.worlds s)) l.rounds (nth l.worlds s).state;
}
