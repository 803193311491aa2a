-- Events listed one after another.
use Rattle.std.proofs.Common.{◌≡◌, ℕ, suc, ◌+◌, ◌-◌, ◌<◌, ◌≤◌, All, List, [], ◌∷◌, ◌++◌, sym, ap, ◌∙◌, subst, arith, append_assoc, append-nil}
use Rattle.std.proofs.lemmas.List.Elements.{All-push}
use Rattle.swap_digraph.specs.Value.{Graph}
use Rattle.swap_job.specs.declared.event.Event.{Event}
use Rattle.swap_job.specs.Step.{IsJobEvent}
use Rattle.swap_gen.specs.Drawn.{drawn_graph, generated}
use Rattle.swap_gen.specs.Events.{drawn_event, drawn_events, first_place, generated_events, GeneratorState}

pub begins : (seed n count : ℕ) → drawn_events seed (drawn_graph seed n) (first_place seed n) (count - 0) ≡ generated_events seed n count
unfolding generated_events
begins seed n count = let z : count - 0 ≡ count = omega arith in ap (drawn_events seed (drawn_graph seed n) (first_place seed n)) z

pub goes_on : (seed : ℕ) (g : Graph) (k to e count : ℕ) (old new whole : List Event) (event : Event)
    → e < count → event ≡ (drawn_event seed g k).0 → to ≡ (drawn_event seed g k).1 → new ≡ old ++ event ∷ []
    → old ++ drawn_events seed g k (count - e) ≡ whole → new ++ drawn_events seed g to (count - (e + 1)) ≡ whole
goes_on seed g k to e count old new whole event lt is on more so_far =
    let s : count - e ≡ suc (count - (e + 1)) = omega arith in
    ap (λ (xs : List Event). xs ++ drawn_events seed g to (count - (e + 1))) more
    ∙ append_assoc old (event ∷ []) (drawn_events seed g to (count - (e + 1)))
    ∙ ap (λ (x : Event). old ++ x ∷ drawn_events seed g to (count - (e + 1))) is
    ∙ ap (λ j. old ++ (drawn_event seed g k).0 ∷ drawn_events seed g j (count - (e + 1))) on
    ∙ ap (λ j. old ++ drawn_events seed g k j) (sym s)
    ∙ so_far

pub is_done : (seed : ℕ) (g : Graph) (k e count : ℕ) (xs whole : List Event) → count ≤ e → xs ++ drawn_events seed g k (count - e) ≡ whole → xs ≡ whole
is_done seed g k e count xs whole le so_far =
    let z : count - e ≡ 0 = omega arith in
    sym (append-nil xs) ∙ ap (λ j. xs ++ drawn_events seed g k j) (sym z) ∙ so_far

-- the first events of a number's job are listed, and a world of the job can take each
abbrev pub AreListed : (seed n count e : ℕ) → GeneratorState → List Event → Type 0
AreListed seed n count e g xs =
    (g.seed ≡ seed) × (g.parties ≡ n) × (xs ++ drawn_events seed (drawn_graph seed n) g.place (count - e) ≡ generated_events seed n count)
    × All (IsJobEvent (generated seed n)) xs

All-none : (P : Event → Type 0) → All P []
All-none P = λ k d lt. absurd (omega arith)

pub first_listed : (seed n count : ℕ) (g : GeneratorState) (xs : List Event) → g ≡ record { seed = seed; parties = n; place = first_place seed n } → xs ≡ []
    → AreListed seed n count 0 g xs
first_listed seed n count g xs is none = (
  ap (λ (s : GeneratorState). s.seed) is,
  ap (λ (s : GeneratorState). s.parties) is,
  ap (λ (ys : List Event). ys ++ drawn_events seed (drawn_graph seed n) g.place (count - 0)) none
      ∙ ap (λ (s : GeneratorState). drawn_events seed (drawn_graph seed n) s.place (count - 0)) is ∙ begins seed n count,
  subst (All (IsJobEvent (generated seed n))) (sym none)
      (All-none (IsJobEvent (generated seed n))),
)

pub more_listed : (seed n count e : ℕ) (g next : GeneratorState) (old new : List Event) (event : Event) → e < count → AreListed seed n count e g old
    → event ≡ (drawn_event g.seed (drawn_graph g.seed g.parties) g.place).0
    → next ≡ record g { place = (drawn_event g.seed (drawn_graph g.seed g.parties) g.place).1 }
    → IsJobEvent (generated g.seed g.parties) event → new ≡ old ++ event ∷ []
    → AreListed seed n count (e + 1) next new
more_listed seed n count e g next old new event lt h is on fits more = (
  ap (λ (s : GeneratorState). s.seed) on ∙ h.0,
  ap (λ (s : GeneratorState). s.parties) on ∙ h.1,
  goes_on seed (drawn_graph seed n) g.place next.place e count old new (generated_events seed n count) event lt
      (is ∙ ap (λ s. (drawn_event s (drawn_graph s g.parties) g.place).0) h.0 ∙ ap (λ m. (drawn_event seed (drawn_graph seed m) g.place).0) h.1)
      (ap (λ (s : GeneratorState). s.place) on ∙ ap (λ s. (drawn_event s (drawn_graph s g.parties) g.place).1) h.0
      ∙ ap (λ m. (drawn_event seed (drawn_graph seed m) g.place).1) h.1)
      more h.2,
  subst (All (IsJobEvent (generated seed n))) (sym more)
      (All-push (IsJobEvent (generated seed n)) old event h.3
      (subst (λ m. IsJobEvent (generated seed m) event) h.1
      (subst (λ s. IsJobEvent (generated s g.parties) event) h.0 fits))),
)
