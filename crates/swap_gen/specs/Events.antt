-- The events that a number gives.
use Rattle.std.specs.Prelude.{ℕ, zero, suc, ◌+◌, ◌*◌, ◌%◌, ◌==◌, ◌||◌, nat_le, List, [], ◌∷◌, filter, length, slice_index, if◌then◌else◌}
use Rattle.swap_digraph.specs.Graph.{arcs, ends}
use Rattle.swap_digraph.specs.Value.{Graph}
use Rattle.swap_job.specs.declared.event.Event.{Event}
use Rattle.swap_job.specs.declared.event.Event.TheVariants.{Tick, Look, Act}
use Rattle.swap_gen.specs.Word.{word, next}
use Rattle.swap_gen.specs.Drawn.{drawn_arcs, drawn_graph}

-- the arcs that touch party p, ascending
abbrev pub touching : Graph → ℕ → List ℕ
touching g p = filter (λ a. (p == (ends g a).from) || (p == (ends g a).to)) (arcs g)

-- the one that a word picks
abbrev pub picked : List ℕ → ℕ → ℕ
picked xs w = slice_index xs (w % length xs)

-- The event of the words from place k on, and the place after them. The first word chooses the kind
-- of event, the second its arc or party, and a third the arc at which a party looks.
unfoldable pub drawn_event : (seed : ℕ) → Graph → (k : ℕ) → Event × ℕ
drawn_event seed g k =
    let kind = word seed k % 8 in
    let w = word seed (next k) in
    let on = next (next k) in
    if kind == 0 then (Tick (w % length g.arcs) 1, on)
    else if nat_le kind 4 then (Look (w % g.n) (picked (touching g (w % g.n)) (word seed on)), next on)
    else (Act (w % g.n), on)

-- `count` events of the words from place k on
abbrev pub drawn_events : (seed : ℕ) → Graph → (k count : ℕ) → List Event
drawn_events seed g k zero = []
drawn_events seed g k (suc count) = (drawn_event seed g k).0 ∷ drawn_events seed g (drawn_event seed g k).1 count

-- the place of the events' first word: after the number of leaders, the ends of arcs and the
-- amounts
abbrev pub first_place : (seed n : ℕ) → ℕ
first_place seed n = 1 + 2 * n + length (drawn_arcs seed n)

-- the first `count` events of the job of a number with n parties
unfoldable pub generated_events : (seed n count : ℕ) → List Event
generated_events seed n count = drawn_events seed (drawn_graph seed n) (first_place seed n) count

-- The job of a number with a number of parties, and the place where its next event is drawn.
pub record GeneratorState : Type 0 where
  pub seed : ℕ
  pub parties : ℕ
  -- the place of the next event's first word
  pub place : ℕ
