-- Histories after some of a list of events.
use Rattle.std.proofs.Common.{◌≡◌, ◌⊎◌, inl, inr, ℕ, zero, suc, ◌+◌, ◌-◌, ◌<◌, ◌≤◌, nat_le, Bool, true, false, cond, List, [], ◌∷◌, ◌++◌, length, take}
use Rattle.std.proofs.Common.{replicate, set, map, ◌==◌, ◌||◌, fold, refl, sym, ap, ◌∙◌, subst, arith, leb-true, leb-false, length-append}
use Rattle.std.specs.List.{All, flat_map, range_with_len}
use Rattle.std.proofs.Math.Seq.{take-append-add, take-nil}
use Rattle.std.proofs.lemmas.List.{take-append-le}
use Rattle.std.proofs.lemmas.List.Folds.{fold-map}
use Rattle.std.proofs.lemmas.List.Sums.{fold-append}
use Rattle.std.proofs.lemmas.List.Elements.{All-nil, All-cons, All-append, All-replicate, All-take}
use Rattle.swap_base.specs.Lists.{IsElement}
use Rattle.swap_base.proofs.Lists.{from_filter, from_range}
use Rattle.swap_digraph.specs.Deal.{party, counterparty}
use Rattle.swap_digraph.specs.Graph.{arcs}
use Rattle.ledger_core.specs.History.{height}
use Rattle.ledger_core.specs.Book.{Histories, history}
use Rattle.swap_job.specs.declared.event.Event.{Event}
use Rattle.swap_job.specs.declared.event.Event.TheVariants.{Tick, Look, Act}
use Rattle.swap_job.specs.Step.{CanStep}
use Rattle.swap_run.specs.Run.{Cast, State, conforms, after_tick, continued_run, step}
use Rattle.swap_run.specs.Fair.{repeat, adjacent_arcs, looks, acts, most_acts, turn, turns, the_horizon, tick_low, ticks, round, is_above_horizon}
use Rattle.swap_run.specs.Fair.{round_unless_ended, finish}
use Rattle.swap_run.specs.FairLaws.{IsReached}
use Rattle.swap_run.specs.Steps.{after_low, act_steps, finish_steps, look_steps, low_step, low_steps, pass_steps, round_steps, rounds_steps, tick_steps}
use Rattle.swap_run.specs.Steps.{turn_steps, turns_steps, unless_steps, FinishIsSteps, IsIntermediateBook}
use Rattle.swap_run.proofs.Repeats.{repeat_first}

module _ (c : Cast) where
  pub along_start : (s : State) (xs : List Event) (b : Histories) → b ≡ s.book → IsIntermediateBook c s xs b
  along_start s xs b e = record { count = 0; few = omega arith; book = e }

  pub along_more : (s : State) (xs ys : List Event) (b : Histories) → IsIntermediateBook c s xs b → IsIntermediateBook c s (xs ++ ys) b
  along_more s xs ys b k =
      let l : length (xs ++ ys) ≡ length xs + length ys = length-append xs ys in
      let few = k.few in
      record {
        count = k.count;
        few = omega (arith, l, few);
        book = k.book ∙ ap (λ (es : List Event). (continued_run c s es).book) (sym (take-append-le k.count xs ys k.few));
      }

  pub along_after : (s : State) (xs ys : List Event) (b : Histories) → IsIntermediateBook c (continued_run c s xs) ys b → IsIntermediateBook c s (xs ++ ys) b
  along_after s xs ys b k =
      let l : length (xs ++ ys) ≡ length xs + length ys = length-append xs ys in
      let few = k.few in
      record {
        count = length xs + k.count;
        few = omega (arith, l, few);
        book = k.book ∙ ap (λ (t : State). t.book) (sym (fold-append (step c) s xs (take k.count ys)))
            ∙ ap (λ (es : List Event). (continued_run c s es).book) (sym (take-append-add xs ys k.count));
      }

  pub along_split : (s : State) (xs ys : List Event) (b : Histories) → IsIntermediateBook c s (xs ++ ys) b → IsIntermediateBook c s xs b ⊎ IsIntermediateBook c (continued_run c s xs) ys b
  along_split s xs ys b k = go (nat_le k.count (length xs)) refl
    where
      l : length (xs ++ ys) ≡ length xs + length ys
      l = length-append xs ys

      go : (y : Bool) → nat_le k.count (length xs) ≡ y → IsIntermediateBook c s xs b ⊎ IsIntermediateBook c (continued_run c s xs) ys b
      go true e =
          let low : k.count ≤ length xs = leb-true k.count (length xs) e in
          inl (record {
            count = k.count;
            few = low;
            book = k.book ∙ ap (λ (es : List Event). (continued_run c s es).book) (take-append-le k.count xs ys low);
          })
      go false e =
          let high = leb-false k.count (length xs) e in
          let few = k.few in
          let n : length xs + (k.count - length xs) ≡ k.count = omega (arith, high) in
          inr (record {
            count = k.count - length xs;
            few = omega (arith, l, few, high);
            book = k.book ∙ ap (λ (i : ℕ). (continued_run c s (take i (xs ++ ys))).book) (sym n)
                ∙ ap (λ (es : List Event). (continued_run c s es).book) (take-append-add xs ys (k.count - length xs))
                ∙ ap (λ (t : State). t.book) (fold-append (step c) s xs (take (k.count - length xs) ys));
          })

  pub along_none : (s : State) (b : Histories) → IsIntermediateBook c s [] b → b ≡ s.book
  along_none s b k = k.book ∙ ap (λ (es : List Event). (continued_run c s es).book) (take-nil k.count)

  pub along_one : (s : State) (e : Event) (b : Histories) → IsIntermediateBook c s (e ∷ []) b → (b ≡ s.book) ⊎ (b ≡ (step c s e).book)
  along_one s e b k = go k.count k.book
    where
      go : (n : ℕ) → b ≡ (continued_run c s (take n (e ∷ []))).book → (b ≡ s.book) ⊎ (b ≡ (step c s e).book)
      go zero q = inl q
      go (suc n) q = inr (q ∙ ap (λ (es : List Event). (continued_run c (step c s e) es).book) (take-nil n))

  pub along_step : (s : State) (e : Event) (b : Histories) → (b ≡ s.book) ⊎ (b ≡ (step c s e).book) → IsIntermediateBook c s (e ∷ []) b
  along_step s e b (inl q) = along_start s (e ∷ []) b q
  along_step s e b (inr q) = record { count = 1; few = omega arith; book = q }

  -- Where the steps lead.

  pub looks_run : (v : ℕ) (s : State) → continued_run c s (look_steps c.deal v) ≡ looks c v s
  unfolding looks
  looks_run v s = fold-map (step c) (λ a. Look v a) s (adjacent_arcs c.deal v)

  pub acts_run : (n v : ℕ) (s : State) → continued_run c s (replicate n (Act v)) ≡ acts c v n s
  acts_run zero v s = refl
  acts_run (suc n) v s = acts_run n v (step c s (Act v)) ∙ repeat_first n (λ t. step c t (Act v)) s

  pub turn_run : (v : ℕ) (s : State) → continued_run c s (turn_steps c v) ≡ turn c s v
  unfolding turn turn_steps
  turn_run v s =
      fold-append (step c) s (look_steps c.deal v) (act_steps c v)
      ∙ ap (λ (t : State). continued_run c t (act_steps c v)) (looks_run v s) ∙ go (conforms c v)
    where
      go : (b : Bool) → continued_run c (looks c v s) (cond b (replicate (most_acts c.deal) (Act v)) (Act v ∷ []))
          ≡ cond b (acts c v (most_acts c.deal) (looks c v s)) (step c (looks c v s) (Act v))
      go true = acts_run (most_acts c.deal) v (looks c v s)
      go false = refl

  turns_over : (xs : List ℕ) (s : State) → continued_run c s (flat_map (turn_steps c) xs) ≡ fold (turn c) s xs
  turns_over [] s = refl
  turns_over (x ∷ xs) s =
      fold-append (step c) s (turn_steps c x) (flat_map (turn_steps c) xs)
      ∙ ap (λ (t : State). continued_run c t (flat_map (turn_steps c) xs)) (turn_run x s) ∙ turns_over xs (turn c s x)

  pub turns_run : (s : State) → continued_run c s (turns_steps c) ≡ turns c s
  unfolding turns turns_steps
  turns_run s = turns_over (range_with_len 0 c.deal.graph.n) s

  low_over : (js : List ℕ) (s : State) → continued_run c s (low_steps c.deal s.book js) ≡ fold (tick_low c) s js
  low_over [] s = refl
  low_over (a ∷ js) s = go (nat_le (height (history s.book a)) (the_horizon c.deal)) (λ t. low_over js t)
    where
      after : Histories
      after = (step c s (Tick a 1)).book

      go : (y : Bool) → ((t : State) → continued_run c t (low_steps c.deal t.book js) ≡ fold (tick_low c) t js)
          → continued_run c s (cond y (Tick a 1 ∷ []) [] ++ low_steps c.deal (cond y after s.book) js)
          ≡ fold (tick_low c) (cond y (step c s (Tick a 1)) s) js
      go true rest = rest (step c s (Tick a 1))
      go false rest = rest s

  pub ticks_run : (s : State) → continued_run c s (tick_steps c.deal s.book) ≡ ticks c s
  unfolding ticks tick_steps
  ticks_run s = low_over (arcs c.deal.graph) s

  pub round_run : (s : State) → continued_run c s (round_steps c s) ≡ round c s
  unfolding round
  round_run s =
      fold-append (step c) s (turns_steps c) (tick_steps c.deal (turns c s).book)
      ∙ ap (λ (t : State). continued_run c t (tick_steps c.deal (turns c s).book)) (turns_run s) ∙ ticks_run (turns c s)

  pub unless_run : (s : State) → continued_run c s (unless_steps c s) ≡ round_unless_ended c s
  unless_run s = go (is_above_horizon c.deal s.book)
    where
      go : (y : Bool) → continued_run c s (cond y [] (round_steps c s)) ≡ cond y s (round c s)
      go true = refl
      go false = round_run s

  pub rounds_run : (n : ℕ) (s : State) → continued_run c s (rounds_steps n c s) ≡ repeat n (round_unless_ended c) s
  rounds_run zero s = refl
  rounds_run (suc n) s =
      let t = repeat n (round_unless_ended c) s in
      fold-append (step c) s (rounds_steps n c s) (unless_steps c t)
      ∙ ap (λ (u : State). continued_run c u (unless_steps c t)) (rounds_run n s) ∙ unless_run t

  pub pass_run : (n : ℕ) (s : State) → continued_run c s (pass_steps n c s) ≡ repeat n (ticks c) s
  pass_run zero s = refl
  pass_run (suc n) s =
      let t = repeat n (ticks c) s in
      fold-append (step c) s (pass_steps n c s) (tick_steps c.deal t.book)
      ∙ ap (λ (u : State). continued_run c u (tick_steps c.deal t.book)) (pass_run n s) ∙ ticks_run t

  pub finish_run : (s : State) → continued_run c s (finish_steps c s) ≡ finish c s
  unfolding finish finish_steps
  finish_run s = rounds_run (the_horizon c.deal + 1) s

  -- more rounds after those
  pub rounds_plus : (m n : ℕ) (s : State) → rounds_steps (m + n) c s ≡ rounds_steps n c s ++ rounds_steps m c (repeat n (round_unless_ended c) s)
  rounds_plus zero n s =
      let z : 0 + n ≡ n = omega arith in ap (λ i. rounds_steps i c s) z ∙ sym (append_nil (rounds_steps n c s))
    where
      append_nil : (xs : List Event) → xs ++ [] ≡ xs
      append_nil [] = refl
      append_nil (x ∷ xs) = ap (λ (ys : List Event). x ∷ ys) (append_nil xs)
  rounds_plus (suc m) n s =
      let z : suc m + n ≡ suc (m + n) = omega arith in
      let f = round_unless_ended c in
      ap (λ i. rounds_steps i c s) z
      ∙ (λ j. rounds_plus m n s j ++ unless_steps c (repeats m n s j))
      ∙ nested (rounds_steps n c s) (rounds_steps m c (repeat n f s)) (unless_steps c (repeat m f (repeat n f s)))
    where
      nested : (xs ys zs : List Event) → (xs ++ ys) ++ zs ≡ xs ++ (ys ++ zs)
      nested [] ys zs = refl
      nested (x ∷ xs) ys zs = ap (λ (es : List Event). x ∷ es) (nested xs ys zs)

      repeats : (m n : ℕ) (s : State) → repeat (m + n) (round_unless_ended c) s ≡ repeat m (round_unless_ended c) (repeat n (round_unless_ended c) s)
      repeats zero n s = let z : 0 + n ≡ n = omega arith in ap (λ i. repeat i (round_unless_ended c) s) z
      repeats (suc m) n s =
          let z : suc m + n ≡ suc (m + n) = omega arith in
          ap (λ i. repeat i (round_unless_ended c) s) z ∙ ap (round_unless_ended c) (repeats m n s)

  -- Ticks go by the histories alone.

  low_same : (js : List ℕ) (s t : State) (b : Histories) → t.book ≡ s.book → IsIntermediateBook c s (low_steps c.deal s.book js) b
      → IsIntermediateBook c t (low_steps c.deal t.book js) b
  low_same [] s t b e k = along_start t [] b (along_none s b k ∙ sym e)
  low_same (a ∷ js) s t b e k =
      subst (λ (x : Histories). IsIntermediateBook c t (low_step c.deal x a ++ low_steps c.deal (after_low c.deal x a) js) b) (sym e)
      (go (nat_le (height (history s.book a)) (the_horizon c.deal)) (λ x y q. low_same js x y b q) k)
    where
      after : Histories
      after = (step c s (Tick a 1)).book

      both : (step c t (Tick a 1)).book ≡ (step c s (Tick a 1)).book
      both = ap (λ (x : Histories). set x a (after_tick 1 (history x a))) e

      first : (b ≡ s.book) ⊎ (b ≡ (step c s (Tick a 1)).book) → (b ≡ t.book) ⊎ (b ≡ (step c t (Tick a 1)).book)
      first (inl q) = inl (q ∙ sym e)
      first (inr q) = inr (q ∙ sym both)

      ticked : ((x y : State) → y.book ≡ x.book → IsIntermediateBook c x (low_steps c.deal x.book js) b → IsIntermediateBook c y (low_steps c.deal y.book js) b)
          → IsIntermediateBook c s (Tick a 1 ∷ []) b ⊎ IsIntermediateBook c (step c s (Tick a 1)) (low_steps c.deal after js) b
          → IsIntermediateBook c t ((Tick a 1 ∷ []) ++ low_steps c.deal after js) b
      ticked rest (inl x) = along_more t (Tick a 1 ∷ []) (low_steps c.deal after js) b (along_step t (Tick a 1) b (first (along_one s (Tick a 1) b x)))
      ticked rest (inr x) =
          along_after t (Tick a 1 ∷ []) (low_steps c.deal after js) b
          (subst (λ (h : Histories). IsIntermediateBook c (step c t (Tick a 1)) (low_steps c.deal h js) b) both
          (rest (step c s (Tick a 1)) (step c t (Tick a 1)) both x))

      go : (y : Bool) → ((x y : State) → y.book ≡ x.book → IsIntermediateBook c x (low_steps c.deal x.book js) b → IsIntermediateBook c y (low_steps c.deal y.book js) b)
          → IsIntermediateBook c s (cond y (Tick a 1 ∷ []) [] ++ low_steps c.deal (cond y after s.book) js) b
          → IsIntermediateBook c t (cond y (Tick a 1 ∷ []) [] ++ low_steps c.deal (cond y after s.book) js) b
      go true rest x = ticked rest (along_split s (Tick a 1 ∷ []) (low_steps c.deal after js) b x)
      go false rest x = subst (λ (h : Histories). IsIntermediateBook c t (low_steps c.deal h js) b) e (rest s t e x)

  pub ticks_same : (s t : State) (b : Histories) → t.book ≡ s.book → IsIntermediateBook c s (tick_steps c.deal s.book) b → IsIntermediateBook c t (tick_steps c.deal t.book) b
  unfolding tick_steps
  ticks_same s t b e k = low_same (arcs c.deal.graph) s t b e k

  -- Each step can be taken.

  abbrev Can : Event → Type 0
  Can = CanStep c.deal c.conforming c.seeds

  looks_can : (v : ℕ) (js : List ℕ) → ((a : ℕ) → IsElement a js → Can (Look v a)) → All Can (map (λ a. Look v a) js)
  looks_can v [] can = All-nil Can
  looks_can v (a ∷ js) can = All-cons Can (Look v a) (map (λ z. Look v z) js) (can a (inl refl)) (looks_can v js (λ z i. can z (inr i)))

  turn_can : (v : ℕ) → v < c.deal.graph.n → All Can (turn_steps c v)
  unfolding turn_steps
  turn_can v l =
      All-append Can (look_steps c.deal v) (act_steps c v)
      (looks_can v (adjacent_arcs c.deal v) (λ a i.
      let k = from_filter (λ z. (v == party c.deal z) || (v == counterparty c.deal z)) a (arcs c.deal.graph) i in
      record { known = l; arc = from_range a (length c.deal.graph.arcs) k.0; adjacent = k.1 })) (go (conforms c v))
    where
      go : (b : Bool) → All Can (cond b (replicate (most_acts c.deal) (Act v)) (Act v ∷ []))
      go true = All-replicate Can (most_acts c.deal) (Act v) l
      go false = All-cons Can (Act v) [] l (All-nil Can)

  turns_can : (xs : List ℕ) → ((v : ℕ) → IsElement v xs → v < c.deal.graph.n) → All Can (flat_map (turn_steps c) xs)
  turns_can [] low = All-nil Can
  turns_can (x ∷ xs) low =
      All-append Can (turn_steps c x) (flat_map (turn_steps c) xs) (turn_can x (low x (inl refl))) (turns_can xs (λ v i. low v (inr i)))

  low_can : (js : List ℕ) (b : Histories) → ((a : ℕ) → IsElement a js → a < length c.deal.graph.arcs) → All Can (low_steps c.deal b js)
  low_can [] b low = All-nil Can
  low_can (a ∷ js) b low =
      All-append Can (low_step c.deal b a) (low_steps c.deal (after_low c.deal b a) js) (go (nat_le (height (history b a)) (the_horizon c.deal)))
      (low_can js (after_low c.deal b a) (λ z i. low z (inr i)))
    where
      go : (y : Bool) → All Can (cond y (Tick a 1 ∷ []) [])
      go true = All-cons Can (Tick a 1) [] (record { arc = low a (inl refl); some = omega arith; few = omega arith }) (All-nil Can)
      go false = All-nil Can

  round_can : (s : State) → All Can (round_steps c s)
  unfolding turns_steps tick_steps
  round_can s =
      All-append Can (turns_steps c) (tick_steps c.deal (turns c s).book) (turns_can (range_with_len 0 c.deal.graph.n) (λ v i. from_range v c.deal.graph.n i))
      (low_can (arcs c.deal.graph) (turns c s).book (λ a i. from_range a (length c.deal.graph.arcs) i))

  unless_can : (s : State) → All Can (unless_steps c s)
  unless_can s = go (is_above_horizon c.deal s.book)
    where
      go : (y : Bool) → All Can (cond y [] (round_steps c s))
      go true = All-nil Can
      go false = round_can s

  rounds_can : (n : ℕ) (s : State) → All Can (rounds_steps n c s)
  rounds_can zero s = All-nil Can
  rounds_can (suc n) s =
      All-append Can (rounds_steps n c s) (unless_steps c (repeat n (round_unless_ended c) s)) (rounds_can n s) (unless_can (repeat n (round_unless_ended c) s))

  pub finish_can : (s : State) → All Can (finish_steps c s)
  unfolding finish_steps
  finish_can s = rounds_can (the_horizon c.deal + 1) s

  -- events lead to the state of such histories
  pub along_reached : (s : State) (events : List Event) (b : Histories) → All Can events → (k : IsIntermediateBook c s events b)
      → IsReached c s (continued_run c s (take k.count events))
  along_reached s events b can k = record { events = take k.count events; can = All-take Can k.count events can; state = refl }

pub finish_is_steps : FinishIsSteps
finish_is_steps c s = finish_run c s
