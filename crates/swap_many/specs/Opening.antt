-- What many swaps begin with.
use Rattle.std.specs.Prelude.{◌≡◌, ℕ, ◌==◌, ◌<◌, ◌≤◌, ◌^◌, Bool, false, List, [], length, map, replicate, slice_index_or, sum_by, if◌then◌else◌}
use Rattle.std.specs.Prelude.{Option, Some, None, Result, Ok, Err}
use Rattle.std.specs.List.{range_with_len}
use Rattle.swap_digraph.specs.declared.deal.Deal.{Deal}
use Rattle.swap_digraph.specs.Deal.{amount}
use Rattle.swap_run.specs.Run.{start}
use Rattle.swap_world.specs.Value.{WorldState, world_cast}
use Rattle.swap_many.specs.declared.overdrawn.Overdrawn.{Overdrawn}
use Rattle.swap_many.specs.declared.place.Place.{Place}
use Rattle.swap_many.specs.Accounts.{ChainState}
use Rattle.swap_many.specs.Chains.{Setup, nowhere, first_free}
use Rattle.swap_many.specs.Opened.{overdrawn}
use Rattle.swap_many.specs.Ticking.{nth}
use Rattle.swap_many.specs.Value.{ManyState}

-- A world before any event.
pub record IsNewWorld (w : WorldState) : Type 0 where
  pub state : w.state ≡ start (world_cast w)
  pub goes_on : w.stopped ≡ false

-- A place is a chain and two of its accounts.
pub record IsChainPlace (chains : List (List ℕ)) (p : Place) : Type 0 where
  pub chain : p.chain < length chains
  pub from : p.from < length (slice_index_or chains p.chain [])
  pub to : p.to < length (slice_index_or chains p.chain [])

-- Each world has a place per arc.
pub record AreWorldPlaces (ws : List WorldState) (places : List (List Place)) : Type 0 where
  pub few : length ws ≤ 8
  pub one_each : length places ≡ length ws
  pub arcs : (s : ℕ) → s < length ws → length (slice_index_or places s []) ≡ length (nth ws s).deal.graph.arcs

-- Chains, new worlds and places fit each other.
pub record AreOpenable (chains : List (List ℕ)) (ws : List WorldState) (places : List (List Place)) : Type 0 where
  pub few_chains : length chains ≤ 32
  pub accounts : (i : ℕ) → length (slice_index_or chains i []) ≤ 64
  pub units : (i : ℕ) → sum_by (λ u. u) (slice_index_or chains i []) ≤ 10 ^ 18
  pub new : (s : ℕ) → s < length ws → IsNewWorld (nth ws s)
  pub placed : AreWorldPlaces ws places
  pub known : (s a : ℕ) → s < length ws → a < length (nth ws s).deal.graph.arcs → IsChainPlace chains (slice_index_or (slice_index_or places s []) a nowhere)

-- what account x of chain i pays for arc a, which stands there
abbrev pub place_funding : Deal → Place → (i x a : ℕ) → ℕ
place_funding d p i x a = if p.chain == i then (if x == p.from then amount d a else 0) else 0

abbrev pub arc_funding : Deal → List Place → (i x a : ℕ) → ℕ
arc_funding d ps i x a = place_funding d (slice_index_or ps a nowhere) i x a

-- what runs, but for what strategies answer
abbrev pub setup_of_worlds : List WorldState → List (List Place) → List (List ℕ) → Setup
setup_of_worlds ws places chains = record { swaps = length ws; cast = λ s. world_cast (nth ws s); places = places; chains = chains }

-- chain i after the units that its slots need were set aside from its accounts
abbrev pub new_chain : Setup → ℕ → ChainState
new_chain m i = record {
  clock = record { height = 0; ticks = 0 };
  free = map (first_free m i) (range_with_len 0 (length (slice_index_or m.chains i [])));
}

abbrev pub none_swept : WorldState → List Bool
none_swept w = replicate (length w.deal.graph.arcs) false

abbrev pub new_many : List (List ℕ) → List WorldState → List (List Place) → ManyState
new_many chains ws places = record {
  worlds = ws;
  places = places;
  openings = chains;
  chains = map (new_chain (setup_of_worlds ws places chains)) (range_with_len 0 (length chains));
  swept = map none_swept ws;
  stages = [];
  stopped = false;
}

-- unless an account lacks units
abbrev pub opened_or : {A : Type 0} → Option Overdrawn → A → Result A Overdrawn
opened_or None x = Ok x
opened_or (Some lack) x = Err lack

-- the swaps before any event, or the first account that lacks units
abbrev pub opened_swaps : List (List ℕ) → List WorldState → List (List Place) → Result ManyState Overdrawn
opened_swaps chains ws places = opened_or (overdrawn (setup_of_worlds ws places chains)) (new_many chains ws places)
