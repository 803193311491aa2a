-- The events of a job, drawn one after another.
use Rattle.std.proofs.Common.{◌≡◌, ℕ, zero, suc, ◌+◌, ◌-◌, ◌<◌, ◌≤◌, List, [], ◌∷◌, length, drop, get_or, refl, sym, ap, ap₂, ◌∙◌, arith}
use Rattle.std.proofs.lemmas.List.{drop-drop, get_or-drop}
use Rattle.swap_digraph.specs.Value.{Graph}
use Rattle.swap_job.specs.declared.event.Event.{Event}
use Rattle.swap_gen.specs.Drawn.{drawn_graph}
use Rattle.swap_gen.specs.Events.{drawn_event, drawn_events, first_place, generated_events, GeneratorState}
use Rattle.swap_gen.proofs.Listing.{begins}
use Rattle.made_jobs.specs.Generating.{HasDrawnEvents}

pub at_first : (seed n count : ℕ) (g : GeneratorState) → g ≡ record { seed = seed; parties = n; place = first_place seed n } → HasDrawnEvents seed n count 0 g
at_first seed n count g is = record {
  seed_is = ap (λ (s : GeneratorState). s.seed) is;
  parties_are = ap (λ (s : GeneratorState). s.parties) is;
  rest = ap (λ (s : GeneratorState). drawn_events seed (drawn_graph seed n) s.place (count - 0)) is ∙ begins seed n count;
}

-- the events of a job are drawn by what the generator itself says
pub at_start : (seed n count : ℕ) (g : GeneratorState) → g ≡ record { seed = seed; parties = n; place = first_place seed n }
    → HasDrawnEvents g.seed g.parties count 0 g
at_start seed n count g is = let at = at_first seed n count g is in record {
  seed_is = refl;
  parties_are = refl;
  rest =
      ap₂ (λ s m. drawn_events s (drawn_graph s m) g.place (count - 0)) at.seed_is at.parties_are ∙ at.rest
      ∙ sym (ap₂ (λ s m. drop 0 (generated_events s m count)) at.seed_is at.parties_are);
}

next_rest : (seed n count e k : ℕ) → e < count
    → drawn_events seed (drawn_graph seed n) k (count - e)
    ≡ (drawn_event seed (drawn_graph seed n) k).0 ∷ drawn_events seed (drawn_graph seed n) (drawn_event seed (drawn_graph seed n) k).1 (count - (e + 1))
next_rest seed n count e k lt = let s : count - e ≡ suc (count - (e + 1)) = omega arith in ap (drawn_events seed (drawn_graph seed n) k) s

events_count : (seed : ℕ) (g : Graph) (k count : ℕ) → length (drawn_events seed g k count) ≡ count
events_count seed g k zero = refl
events_count seed g k (suc count) = ap suc (events_count seed g (drawn_event seed g k).1 count)

pub many : (seed n count : ℕ) → length (generated_events seed n count) ≡ count
unfolding generated_events
many seed n count = events_count seed (drawn_graph seed n) (first_place seed n) count

-- the event that was drawn is that of its number
pub drawn_is : (seed n count e : ℕ) (event d : Event) → drop e (generated_events seed n count) ≡ event ∷ drop (e + 1) (generated_events seed n count)
    → event ≡ get_or (generated_events seed n count) e d
drawn_is seed n count e event d first =
    let z : e + 0 ≡ e = omega arith in
    sym (ap (λ (xs : List Event). get_or xs 0 d) first) ∙ get_or-drop e (generated_events seed n count) 0 d
    ∙ ap (λ k. get_or (generated_events seed n count) k d) z

-- What the next draw gives: the next of the events.
pub record Draws (seed n count e : ℕ) (event : Event) (next : GeneratorState) : Type 0 where
  pub first : drop e (generated_events seed n count) ≡ event ∷ drop (e + 1) (generated_events seed n count)
  pub low : e < length (generated_events seed n count)
  pub event_is : event ≡ get_or (generated_events seed n count) e event
  pub on : HasDrawnEvents seed n count (e + 1) next

pub draws : (seed n count e : ℕ) (g next : GeneratorState) (event : Event) → e < count → HasDrawnEvents seed n count e g
    → event ≡ (drawn_event g.seed (drawn_graph g.seed g.parties) g.place).0
    → next ≡ record g { place = (drawn_event g.seed (drawn_graph g.seed g.parties) g.place).1 } → Draws seed n count e event next
draws seed n count e g next event lt at is goes =
    let graph : Graph = drawn_graph seed n in
    let event_is : event ≡ (drawn_event seed graph g.place).0 =
    is ∙ ap (λ s. (drawn_event s (drawn_graph s g.parties) g.place).0) at.seed_is ∙ ap (λ m. (drawn_event seed (drawn_graph seed m) g.place).0) at.parties_are in
    let place : next.place ≡ (drawn_event seed graph g.place).1 =
    ap (λ (s : GeneratorState). s.place) goes ∙ ap (λ s. (drawn_event s (drawn_graph s g.parties) g.place).1) at.seed_is
    ∙ ap (λ m. (drawn_event seed (drawn_graph seed m) g.place).1) at.parties_are in
    let rest : List Event = drawn_events seed graph next.place (count - (e + 1)) in
    let whole : drop e (generated_events seed n count) ≡ event ∷ rest =
    sym at.rest ∙ next_rest seed n count e g.place lt
    ∙ ap (λ (x : Event). x ∷ drawn_events seed graph (drawn_event seed graph g.place).1 (count - (e + 1))) (sym event_is)
    ∙ ap (λ k. event ∷ drawn_events seed graph k (count - (e + 1))) (sym place) in
    let after : drop (e + 1) (generated_events seed n count) ≡ rest = sym (drop-drop 1 e (generated_events seed n count)) ∙ ap (drop 1) whole in
    let first : drop e (generated_events seed n count) ≡ event ∷ drop (e + 1) (generated_events seed n count) =
    whole ∙ ap (λ (xs : List Event). event ∷ xs) (sym after) in
    let size = many seed n count in
    record {
      first = first;
      low = omega (arith, size, lt);
      event_is = drawn_is seed n count e event event first;
      on = record {
        seed_is = ap (λ (s : GeneratorState). s.seed) goes ∙ at.seed_is;
        parties_are = ap (λ (s : GeneratorState). s.parties) goes ∙ at.parties_are;
        rest = sym after;
      };
    }

-- nothing is left
pub none_left : (seed n count e : ℕ) (g : GeneratorState) → count ≤ e → HasDrawnEvents seed n count e g → drop e (generated_events seed n count) ≡ []
none_left seed n count e g le at =
    let z : count - e ≡ 0 = omega arith in
    sym at.rest ∙ ap (drawn_events seed (drawn_graph seed n) g.place) z
