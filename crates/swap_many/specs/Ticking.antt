-- Ticks of the ledgers of several worlds that stand on one chain.
use Rattle.std.specs.Prelude.{◌≡◌, ℕ, ◌<◌, ◌≤◌, Bool, false, List, [], length, slice_index_or}
use Rattle.std.specs.List.{All, list_any}
use Rattle.std.specs.List.Sorted.{IsStrictlyIncreasing}
use Rattle.swap_run.specs.Laws.{IsKept}
use Rattle.swap_world.specs.Value.{WorldState, world_cast}
use Rattle.swap_world.specs.On.{tick_arcs}
use Rattle.swap_many.specs.Value.{no_world}

-- world s of a list
abbrev pub nth : List WorldState → ℕ → WorldState
nth ws s = slice_index_or ws s no_world

-- Each world goes on, and its arcs that stand on the chain are told, ascending.
pub record AreTickable (on : List (List ℕ)) (ws : List WorldState) : Type 0 where
  pub one_each : length on ≡ length ws
  pub arcs : (s : ℕ) → s < length ws → All (λ a. a < length (nth ws s).deal.graph.arcs) (slice_index_or on s [])
  pub ascending : (s : ℕ) → s < length ws → IsStrictlyIncreasing (slice_index_or on s [])
  pub go_on : (s : ℕ) → s < length ws → (nth ws s).stopped ≡ false

-- Of a world its ledgers on the chain have ticked.
pub record IsTicked (on : List ℕ) (k : ℕ) (old new : WorldState) : Type 0 where
  pub state : new.state ≡ tick_arcs on k (world_cast old) old.state
  pub same : new ≡ record old { state = new.state; stopped = new.stopped }
  pub kept : IsKept (world_cast new) new.state.book

-- The first worlds have ticked, and the others are as they were.
pub record AreTicked (on : List (List ℕ)) (k count : ℕ) (old new : List WorldState) : Type 0 where
  pub one_each : length new ≡ length old
  pub ticked : (s : ℕ) → s < length old → s < count → IsTicked (slice_index_or on s []) k (nth old s) (nth new s)
  pub others : (s : ℕ) → count ≤ s → nth new s ≡ nth old s

-- memory ran out in one of the worlds
abbrev pub some_stopped : List WorldState → Bool
some_stopped ws = list_any (λ w. w.stopped) ws
