-- What the fields of many worlds mean, and what holds of them.
use Rattle.std.specs.Prelude.{◌≡◌, ℕ, ◌<◌, ◌≤◌, ◌^◌, ◌==◌, false, List, [], length, filter, map, slice_index_or, sum_by}
use Rattle.std.specs.List.{range_with_len}
use Rattle.swap_run.specs.Asked.{Answers}
use Rattle.swap_run.specs.Laws.{IsKept}
use Rattle.swap_world.specs.Value.{world_cast}
use Rattle.swap_many.specs.declared.place.Place.{Place}
use Rattle.swap_many.specs.declared.worlds.Worlds.TheInside.{Inside}
use Rattle.swap_many.specs.Chains.{nowhere}
use Rattle.swap_many.specs.Many.{Run}
use Rattle.swap_many.specs.Laws.{IsReadySetup}
use Rattle.swap_many.specs.Sound.{Keeps}
use Rattle.swap_many.specs.Value.{ManyState, nth_world, nth_chain, swept_slots, made_setup, many_kept, ContinueAll}

abbrev pub inside_worlds : Inside → ManyState
inside_worlds w = record {
  worlds = w.worlds.items;
  places = w.places;
  openings = w.openings.items;
  chains = w.chains.items;
  swept = w.swept.items;
  stages = [];
  stopped = w.stopped;
}

-- those of the arcs with these places that stand on chain i, ascending
abbrev pub stands : ℕ → List Place → List ℕ
stands i places = filter (λ a. (slice_index_or places a nowhere).chain == i) (range_with_len 0 (length places))

-- the arcs that stand on each chain, by chain and swap, given the number of chains
abbrev pub standing : ℕ → List (List Place) → List (List (List ℕ))
standing n places = map (λ i. map (stands i) places) (range_with_len 0 n)

-- the arcs, the chains and their accounts fit each other, and what is kept is that of some run
pub record AreWhole (w : ManyState) : Type 0 where
  pub few : length w.worlds ≤ 8
  pub few_chains : length w.chains ≤ 32
  pub places : length w.places ≡ length w.worlds
  pub arcs : (s : ℕ) → s < length w.worlds → length (slice_index_or w.places s []) ≡ length (nth_world w s).deal.graph.arcs
  pub swept : length w.swept ≡ length w.worlds
  pub slots : (s : ℕ) → s < length w.worlds → length (swept_slots w s) ≡ length (nth_world w s).deal.graph.arcs
  pub chains : length w.chains ≡ length w.openings
  pub accounts : (i : ℕ) → length (nth_chain w i).free ≡ length (slice_index_or w.openings i [])
  pub units : (i : ℕ) → sum_by (λ u. u) (slice_index_or w.openings i []) ≤ 10 ^ 18
  pub ready : (g : ℕ → Answers) → IsReadySetup (made_setup w g)
  pub on : w.stopped ≡ false → (s : ℕ) → s < length w.worlds → (nth_world w s).stopped ≡ false
  pub sound : w.stopped ≡ false → (g : ℕ → Answers) → ContinueAll w g → (r : Run) × Keeps (made_setup w g) r (many_kept w)
  pub kept : (s : ℕ) → s < length w.worlds → IsKept (world_cast (nth_world w s)) (nth_world w s).state.book

pub record WorldsHold (w : Inside) : Type 0 where
  pub whole : AreWhole (inside_worlds w)
  -- the arcs that stand on each chain are looked up
  pub on : w.on ≡ standing (length w.openings.items) w.places
