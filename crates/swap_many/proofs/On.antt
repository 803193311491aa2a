-- The turns of a swap's parties in a round are its own.
use Rattle.std.proofs.Common.{◌≡◌, ◌≢◌, ◌⊎◌, ℕ, suc, zero, Bool, true, false, cond, List, [], ◌∷◌, fold, refl, sym, ap, ◌∙◌, subst, inl, inr}
use Rattle.std.specs.List.{range_with_len}
use Rattle.swap_job.specs.declared.event.Event.{Event}
use Rattle.swap_job.specs.declared.event.Event.TheVariants.{Look, Act}
use Rattle.swap_rules.proofs.Prefixes.{same_or_not}
use Rattle.swap_run.specs.Run.{State, conforms, step}
use Rattle.swap_run.specs.Fair.{repeat, adjacent_arcs, looks, most_acts}
use Rattle.swap_run.specs.Called.{apply_step, swept_turn}
use Rattle.swap_many.specs.declared.many_event.ManyEvent.TheVariants.{In}
use Rattle.swap_many.specs.Chains.{Setup, put}
use Rattle.swap_many.specs.Many.{swap_turn}
use Rattle.swap_many.specs.Kept.{Kept, kept_done}
use Rattle.swap_many.specs.Laws.{TurnsStayInSwap}
use Rattle.swap_many.proofs.Projections.{put_same, put_other, put_still}

-- swap s has come to x
abbrev set_swap : ℕ → Kept → State → Kept
set_swap s z x = record z { swaps = put z.swaps s x }

put_twice : {A : Type 0} (f : ℕ → A) (i : ℕ) (x y : A) → put (put f i x) i y ≡ put f i y
put_twice {A} f i x y = λ k j. at j (same_or_not j i) k
  where
    at : (j : ℕ) → (j ≡ i) ⊎ (j ≢ i) → put (put f i x) i y j ≡ put f i y j
    at j (inl e) = subst (λ j. put (put f i x) i y j ≡ put f i y j) (sym e) (put_same (put f i x) i y ∙ sym (put_same f i y))
    at j (inr n) = put_other (put f i x) i y j n ∙ (put_other f i x j n ∙ sym (put_other f i y j n))

module _ (m : Setup) (s : ℕ) (z : Kept) where
  event_on : (x : State) (e : Event) → kept_done false m (set_swap s z x) (In s e) ≡ set_swap s z (apply_step (z.swept s) (m.cast s) x e)
  event_on x e =
      ap (λ (f : ℕ → State). let t : Kept = record z { swaps = f } in t) (put_twice z.swaps s x (apply_step (z.swept s) (m.cast s) (put z.swaps s x s) e)
      ∙ ap (λ y. put z.swaps s (apply_step (z.swept s) (m.cast s) y e)) (put_same z.swaps s x))

  looks_on : (v : ℕ) (xs : List ℕ) (x : State) → fold (λ z a. kept_done false m z (In s (Look v a))) (set_swap s z x) xs
      ≡ set_swap s z (fold (λ x a. step (m.cast s) x (Look v a)) x xs)
  looks_on v [] x = refl
  looks_on v (a ∷ xs) x =
      ap (λ y. fold (λ z a. kept_done false m z (In s (Look v a))) y xs) (event_on x (Look v a)) ∙ looks_on v xs (step (m.cast s) x (Look v a))

  acts_on : (v n : ℕ) (x : State) → repeat n (λ z. kept_done false m z (In s (Act v))) (set_swap s z x)
      ≡ set_swap s z (repeat n (λ x. apply_step (z.swept s) (m.cast s) x (Act v)) x)
  acts_on v zero x = refl
  acts_on v (suc n) x =
      ap (λ y. kept_done false m y (In s (Act v))) (acts_on v n x)
      ∙ event_on (repeat n (λ x. apply_step (z.swept s) (m.cast s) x (Act v)) x) (Act v)

  turn_is_on : (v : ℕ) (x : State)
      → swap_turn m (kept_done false m) (kept_done true m) (λ z i. (z.clocks i).height) s (set_swap s z x) v ≡ set_swap s z (swept_turn (z.swept s) (m.cast s) x v)
  unfolding looks
  turn_is_on v x = go (conforms (m.cast s) v)
    where
      seen : fold (λ z a. kept_done false m z (In s (Look v a))) (set_swap s z x) (adjacent_arcs (m.cast s).deal v)
          ≡ set_swap s z (fold (λ x a. step (m.cast s) x (Look v a)) x (adjacent_arcs (m.cast s).deal v))
      seen = looks_on v (adjacent_arcs (m.cast s).deal v) x

      go : (b : Bool)
          → cond b (repeat (most_acts (m.cast s).deal) (λ z. kept_done false m z (In s (Act v)))
          (fold (λ z a. kept_done false m z (In s (Look v a))) (set_swap s z x) (adjacent_arcs (m.cast s).deal v)))
          (kept_done false m (fold (λ z a. kept_done false m z (In s (Look v a))) (set_swap s z x) (adjacent_arcs (m.cast s).deal v)) (In s (Act v)))
          ≡ set_swap s z (cond b (repeat (most_acts (m.cast s).deal) (λ x. apply_step (z.swept s) (m.cast s) x (Act v)) (looks (m.cast s) v x))
          (apply_step (z.swept s) (m.cast s) (looks (m.cast s) v x) (Act v)))
      go true =
          ap (repeat (most_acts (m.cast s).deal) (λ z. kept_done false m z (In s (Act v)))) seen
          ∙ acts_on v (most_acts (m.cast s).deal) (looks (m.cast s) v x)
      go false = ap (λ y. kept_done false m y (In s (Act v))) seen ∙ event_on (looks (m.cast s) v x) (Act v)

  turns_on_from : (vs : List ℕ) (x : State)
      → fold (swap_turn m (kept_done false m) (kept_done true m) (λ z i. (z.clocks i).height) s) (set_swap s z x) vs
      ≡ set_swap s z (fold (swept_turn (z.swept s) (m.cast s)) x vs)
  turns_on_from [] x = refl
  turns_on_from (v ∷ vs) x =
      ap (λ y. fold (swap_turn m (kept_done false m) (kept_done true m) (λ z i. (z.clocks i).height) s) y vs) (turn_is_on v x)
      ∙ turns_on_from vs (swept_turn (z.swept s) (m.cast s) x v)

pub turns_are_on : TurnsStayInSwap
turns_are_on m s z =
    ap (λ (f : ℕ → State). fold (swap_turn m (kept_done false m) (kept_done true m) (λ z i. (z.clocks i).height) s)
    (let t : Kept = record z { swaps = f } in t) (range_with_len 0 (m.cast s).deal.graph.n)) (sym (put_still z.swaps s (z.swaps s) refl))
    ∙ turns_on_from m s z (range_with_len 0 (m.cast s).deal.graph.n) (z.swaps s)
