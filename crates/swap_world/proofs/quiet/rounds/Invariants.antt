use Rattle.std.proofs.Common.{ℕ, ◌<◌, ◌≤◌, length, slice_index_or}
use Rattle.swap_run.specs.Fair.{adjacent_arcs}
use Rattle.swap_world.specs.Acting.{histories}
use Rattle.swap_world.specs.Quiet.{IsCalmActor}
use Rattle.swap_world.specs.Players.{Actor}
use Rattle.swap_world.proofs.quiet.rounds.Given as goal

abbrev pub invariant-parties : goal.invariant-parties
invariant-parties l = record {
  few : l.rounds ≤ l.most;
  calm :
      0 < l.rounds → (v : ℕ) (x : Actor) → v < l.p → v < length l.actors
      → IsCalmActor l.rounds (histories l.ledgers) (adjacent_arcs l.deal v) (slice_index_or l.actors v x);
}
