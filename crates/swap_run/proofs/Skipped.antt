-- Rounds in which nobody makes a call: on the way of as many ticks and a round there are no
-- histories but those on the way of the rounds.
use Rattle.std.proofs.Common.{◌≡◌, ◌≢◌, ◌⊎◌, inl, inr, ℕ, zero, suc, ◌<◌, ◌≤◌, Bool, true, false, cond, List, [], ◌∷◌, ◌++◌, length, map, replicate, take}
use Rattle.std.proofs.Common.{refl, sym, ap, ◌∙◌, subst, arith}
use Rattle.std.specs.List.{flat_map, range_with_len, take-map}
use Rattle.std.proofs.lemmas.List.{take-replicate, length-replicate}
use Rattle.swap_base.specs.Lists.{IsElement}
use Rattle.swap_base.proofs.Lists.{from_range}
use Rattle.ledger_core.specs.Book.{Histories}
use Rattle.swap_job.specs.declared.event.Event.{Event}
use Rattle.swap_job.specs.declared.event.Event.TheVariants.{Look, Act}
use Rattle.swap_job.specs.declared.job.Role.{Role}
use Rattle.swap_job.specs.declared.job.Role.TheVariants.{Conforming, Manual, Script, Strategy}
use Rattle.swap_rules.proofs.Prefixes.{same_or_not}
use Rattle.swap_run.specs.Run.{Cast, Notes, State, conforms, party_role, is_planned, state_notes, act, role_act, look, watch, continued_run, step}
use Rattle.swap_run.specs.Fair.{repeat, adjacent_arcs, looks, acts, most_acts, turn, turns, ticks, round, is_above_horizon, round_unless_ended}
use Rattle.swap_run.specs.Quiet.{overlaid_histories}
use Rattle.swap_run.specs.Steps.{act_steps, look_steps, pass_steps, round_steps, rounds_steps, tick_steps, turn_steps, turns_steps, unless_steps}
use Rattle.swap_run.specs.Steps.{IsIntermediateBook, IsSkipped}
use Rattle.swap_run.proofs.Along.{along_start, along_more, along_after, along_split, along_none, along_one, looks_run, acts_run, turn_run, turns_run}
use Rattle.swap_run.proofs.Along.{rounds_run, pass_run, ticks_same}
use Rattle.swap_run.proofs.Quiet.{with_note, looks_other, acts_other, looks_forget, turn_forgets, turn_other, turn_keeps, turn_many, calm_turns, calm_round}
use Rattle.swap_run.proofs.Quiet.{AllIdle, IsStale, finish_skips, notes_kept, skips_for, turns_skip}

module _ (c : Cast) where
  -- Looks leave the histories.

  look_book : (v a : ℕ) (s : State) → (step c s (Look v a)).book ≡ s.book
  look_book v a s = go (conforms c v)
    where
      go : (b : Bool) → (cond b (look s v a) (watch c s v a)).book ≡ s.book
      go true = refl
      go false = refl

  looks_book : (v : ℕ) (js : List ℕ) (s : State) → (continued_run c s (map (λ a. Look v a) js)).book ≡ s.book
  looks_book v [] s = refl
  looks_book v (a ∷ js) s = looks_book v js (step c s (Look v a)) ∙ look_book v a s

  along_looks : (v : ℕ) (js : List ℕ) (s : State) (b : Histories) → IsIntermediateBook c s (map (λ a. Look v a) js) b → b ≡ s.book
  along_looks v js s b k =
      k.book ∙ ap (λ (es : List Event). (continued_run c s es).book) (take-map (λ a. Look v a) k.count js) ∙ looks_book v (take k.count js) s

  -- Several acts in a row.

  along_acts : (m v : ℕ) (s t : State) (b : Histories) → ((k : ℕ) → (acts c v k t).book ≡ (acts c v k s).book) → IsIntermediateBook c s (replicate m (Act v)) b
      → IsIntermediateBook c t (replicate m (Act v)) b
  along_acts m v s t b same k =
      let few : k.count ≤ m = subst (λ n. k.count ≤ n) (length-replicate m (Act v)) k.few in
      let some = take-replicate k.count m (Act v) few in
      record {
        count = k.count;
        few = k.few;
        book = k.book ∙ ap (λ (es : List Event). (continued_run c s es).book) some ∙ ap (λ (u : State). u.book) (acts_run c k.count v s) ∙ sym (same k.count)
            ∙ ap (λ (u : State). u.book) (sym (acts_run c k.count v t)) ∙ ap (λ (es : List Event). (continued_run c t es).book) (sym some);
      }

  -- an act of a party that neither conforms nor plans
  act_rests : (v : ℕ) (s : State) → conforms c v ≡ false → is_planned (party_role c v) ≡ false → step c s (Act v) ≡ s
  act_rests v s out none = ap (λ (b : Bool). cond b (act c s v) (role_act c s v (party_role c v))) out ∙ by (party_role c v) none
    where
      by : (role : Role) → is_planned role ≡ false → role_act c s v role ≡ s
      by Conforming e = refl
      by Manual e = refl
      by (Script moves) e = absurd (cc e)
      by (Strategy name) e = absurd (cc e)

  module _ (plain : (v : ℕ) → v < c.deal.graph.n → conforms c v ≡ false → is_planned (party_role c v) ≡ false) where
    -- Stale notes leave the way of the turns.

    acts_part : (y : Bool) (x u : ℕ) (s : State) (n : Notes) (b : Histories) → conforms c x ≡ y → x < c.deal.graph.n → x < length s.notes
        → u < length s.notes → conforms c u ≡ true → IsStale c s u n → (x ≡ u) ⊎ (x ≢ u)
        → IsIntermediateBook c (looks c x s) (cond y (replicate (most_acts c.deal) (Act x)) (Act x ∷ [])) b
        → IsIntermediateBook c (with_note s u n) (look_steps c.deal x ++ cond y (replicate (most_acts c.deal) (Act x)) (Act x ∷ [])) b
    acts_part true x u s n b cx lx l lu cu stale (inl e) k =
        let same : looks c x (with_note s u n) ≡ looks c x s =
        subst (λ z. looks c z (with_note s u n) ≡ looks c z s) (sym e) (looks_forget c s u n cu lu stale) in
        along_after c (with_note s u n) (look_steps c.deal x) (replicate (most_acts c.deal) (Act x)) b
        (subst (λ (t : State). IsIntermediateBook c t (replicate (most_acts c.deal) (Act x)) b) (sym (looks_run c x (with_note s u n) ∙ same)) k)
    acts_part true x u s n b cx lx l lu cu stale (inr apart) k =
        let far : u ≢ x = λ e. apart (sym e) in
        let other : looks c x (with_note s u n) ≡ with_note (looks c x s) u n = looks_other c s u x n far cx l in
        along_after c (with_note s u n) (look_steps c.deal x) (replicate (most_acts c.deal) (Act x)) b
        (subst (λ (t : State). IsIntermediateBook c t (replicate (most_acts c.deal) (Act x)) b) (sym (looks_run c x (with_note s u n) ∙ other))
        (along_acts (most_acts c.deal) x (looks c x s) (with_note (looks c x s) u n) b
        (λ i. ap (λ (t : State). t.book) (acts_other c i (looks c x s) u x n far cx)) k))
    acts_part false x u s n b cx lx l lu cu stale where_it_is k =
        along_start c (with_note s u n) (look_steps c.deal x ++ Act x ∷ []) b (by (along_one c (looks c x s) (Act x) b k))
      where
        whole : (looks c x s).book ≡ s.book
        whole = ap (λ (t : State). t.book) (sym (looks_run c x s)) ∙ looks_book x (adjacent_arcs c.deal x) s

        by : (b ≡ (looks c x s).book) ⊎ (b ≡ (step c (looks c x s) (Act x)).book) → b ≡ s.book
        by (inl q) = q ∙ whole
        by (inr q) = q ∙ ap (λ (t : State). t.book) (act_rests x (looks c x s) cx (plain x lx cx)) ∙ whole

    turn_part : (x u : ℕ) (s : State) (n : Notes) (b : Histories) → x < c.deal.graph.n → x < length s.notes → u < length s.notes → conforms c u ≡ true
        → IsStale c s u n → IsIntermediateBook c s (turn_steps c x) b → IsIntermediateBook c (with_note s u n) (turn_steps c x) b
    unfolding turn_steps
    turn_part x u s n b lx l lu cu stale k = go (along_split c s (look_steps c.deal x) (act_steps c x) b k)
      where
        go : IsIntermediateBook c s (look_steps c.deal x) b ⊎ IsIntermediateBook c (continued_run c s (look_steps c.deal x)) (act_steps c x) b
            → IsIntermediateBook c (with_note s u n) (look_steps c.deal x ++ act_steps c x) b
        go (inl i) = along_start c (with_note s u n) (look_steps c.deal x ++ act_steps c x) b (along_looks x (adjacent_arcs c.deal x) s b i)
        go (inr i) =
            acts_part (conforms c x) x u s n b refl lx l lu cu stale (same_or_not x u)
            (subst (λ (t : State). IsIntermediateBook c t (act_steps c x) b) (looks_run c x s) i)

    turns_part : (xs : List ℕ) (u : ℕ) (s : State) (n : Notes) (b : Histories) → ((x : ℕ) → IsElement x xs → x < c.deal.graph.n)
        → length s.notes ≡ c.deal.graph.n → u < c.deal.graph.n → conforms c u ≡ true → IsStale c s u n → IsIntermediateBook c s (flat_map (turn_steps c) xs) b
        → IsIntermediateBook c (with_note s u n) (flat_map (turn_steps c) xs) b
    turns_part [] u s n b low many lu cu stale k = along_start c (with_note s u n) [] b (along_none c s b k)
    turns_part (x ∷ xs) u s n b low many lu cu stale k =
        go (λ t far old i. turns_part xs u t n b (λ y j. low y (inr j)) far lu cu old i) (along_split c s (turn_steps c x) (flat_map (turn_steps c) xs) b k)
      where
        lx : x < c.deal.graph.n
        lx = low x (inl refl)

        l : x < length s.notes
        l = rw many lx

        here : u < length s.notes
        here = rw many lu

        after : ((t : State) → length t.notes ≡ c.deal.graph.n → IsStale c t u n → IsIntermediateBook c t (flat_map (turn_steps c) xs) b
            → IsIntermediateBook c (with_note t u n) (flat_map (turn_steps c) xs) b)
            → (x ≡ u) ⊎ (x ≢ u) → IsIntermediateBook c (turn c s x) (flat_map (turn_steps c) xs) b
            → IsIntermediateBook c (turn c (with_note s u n) x) (flat_map (turn_steps c) xs) b
        after rest (inl e) i =
            let same : turn c (with_note s u n) x ≡ turn c s x =
            subst (λ z. turn c (with_note s u n) z ≡ turn c s z) (sym e) (turn_forgets c s u n cu here stale) in
            subst (λ (t : State). IsIntermediateBook c t (flat_map (turn_steps c) xs) b) (sym same) i
        after rest (inr apart) i =
            let kept : state_notes (turn c s x) u ≡ state_notes s u = turn_keeps c plain s u x lx (λ e. apart (sym e)) here l in
            subst (λ (t : State). IsIntermediateBook c t (flat_map (turn_steps c) xs) b) (sym (turn_other c plain s u x n lx (λ e. apart (sym e)) l))
            (rest (turn c s x) (turn_many c plain s x lx l ∙ many) (record {
              signed = stale.signed ∙ ap (λ (m : Notes). m.signed) (sym kept);
              known = λ h. stale.known h ∙ ap (λ (m : Notes). overlaid_histories h (adjacent_arcs c.deal u) m.known) (sym kept);
            }) i)

        go : ((t : State) → length t.notes ≡ c.deal.graph.n → IsStale c t u n → IsIntermediateBook c t (flat_map (turn_steps c) xs) b
            → IsIntermediateBook c (with_note t u n) (flat_map (turn_steps c) xs) b)
            → IsIntermediateBook c s (turn_steps c x) b ⊎ IsIntermediateBook c (continued_run c s (turn_steps c x)) (flat_map (turn_steps c) xs) b
            → IsIntermediateBook c (with_note s u n) (turn_steps c x ++ flat_map (turn_steps c) xs) b
        go rest (inl i) =
            along_more c (with_note s u n) (turn_steps c x) (flat_map (turn_steps c) xs) b (turn_part x u s n b lx l here cu stale i)
        go rest (inr i) =
            along_after c (with_note s u n) (turn_steps c x) (flat_map (turn_steps c) xs) b
            (subst (λ (t : State). IsIntermediateBook c t (flat_map (turn_steps c) xs) b) (sym (turn_run c x (with_note s u n)))
            (after rest (same_or_not x u) (subst (λ (t : State). IsIntermediateBook c t (flat_map (turn_steps c) xs) b) (turn_run c x s) i)))

    -- what is on the way of the turns after ticks is so after a quiet round
    turns_way : (s : State) (b : Histories) → length s.notes ≡ c.deal.graph.n → AllIdle c plain s → IsIntermediateBook c (ticks c s) (turns_steps c) b
        → IsIntermediateBook c (round c s) (turns_steps c) b
    unfolding round turns turns_steps
    turns_way s b many idle k =
        skips_for c plain (λ t. IsIntermediateBook c t (flat_map (turn_steps c) (range_with_len 0 c.deal.graph.n)) b)
        (λ u t n cu lu m stale h. turns_part (range_with_len 0 c.deal.graph.n) u t n b (λ x i. from_range x c.deal.graph.n i) m lu cu stale h)
        (range_with_len 0 c.deal.graph.n) s (λ x i. from_range x c.deal.graph.n i) many idle k

    -- Several quiet rounds in a row.

    module _ (n : ℕ) (s : State) (many : length s.notes ≡ c.deal.graph.n)
        (on : (i : ℕ) → i ≤ n → is_above_horizon c.deal (repeat i (ticks c) s).book ≡ false)
        (idle : (i : ℕ) → i < n → AllIdle c plain (repeat i (ticks c) s)) where
      abbrev ticked : ℕ → State
      ticked i = repeat i (ticks c) s

      abbrev rounded : ℕ → State
      rounded i = repeat i (round_unless_ended c) s

      many_at : (i : ℕ) → length (ticked i).notes ≡ c.deal.graph.n
      many_at i = ap length (notes_kept c i s) ∙ many

      next_at : (i : ℕ) → i ≤ n → rounded (suc i) ≡ round c (ticked i)
      next_at i le = finish_skips c plain i s many (λ j l. on j (omega (arith, l, le))) (λ j l. idle j (omega (arith, l, le)))

      round_book : (i : ℕ) → i ≤ n → (rounded i).book ≡ (ticked i).book
      round_book zero le = refl
      round_book (suc m) le =
          ap (λ (t : State). t.book) (next_at m (omega (arith, le))) ∙ calm_round c plain (ticked m) (many_at m) (idle m (omega (arith, le)))

      turned_at : (i : ℕ) → i < n → (turns c (rounded i)).book ≡ (ticked i).book
      turned_at zero lt = calm_turns c plain s many (idle 0 lt)
      turned_at (suc m) lt =
          ap (λ (t : State). (turns c t).book) (next_at m (omega (arith, lt)))
          ∙ ap (λ (t : State). t.book) (turns_skip c plain (ticked m) (many_at m) (idle m (omega (arith, lt))))
          ∙ calm_turns c plain (ticked (suc m)) (many_at (suc m)) (idle (suc m) lt)

      -- on the way of the round number i
      here : (i : ℕ) (b : Histories) → i ≤ n → IsIntermediateBook c (rounded i) (round_steps c (rounded i)) b → IsIntermediateBook c s (rounds_steps (suc i) c s) b
      here i b le k =
          let low : is_above_horizon c.deal (rounded i).book ≡ false = ap (is_above_horizon c.deal) (round_book i le) ∙ on i le in
          let is : unless_steps c (rounded i) ≡ round_steps c (rounded i) = ap (λ (y : Bool). cond y [] (round_steps c (rounded i))) low in
          along_after c s (rounds_steps i c s) (unless_steps c (rounded i)) b
          (subst (λ (es : List Event). IsIntermediateBook c (continued_run c s (rounds_steps i c s)) es b) (sym is)
          (subst (λ (t : State). IsIntermediateBook c t (round_steps c (rounded i)) b) (sym (rounds_run c i s)) k))

      pass_way : (m : ℕ) (b : Histories) → m ≤ n → IsIntermediateBook c s (pass_steps m c s) b → IsIntermediateBook c s (rounds_steps m c s) b
      pass_way zero b le k = k
      pass_way (suc m) b le k = go (λ i. pass_way m b (omega (arith, le)) i) (along_split c s (pass_steps m c s) (tick_steps c.deal (ticked m).book) b k)
        where
          low : m ≤ n
          low = omega (arith, le)

          go : (IsIntermediateBook c s (pass_steps m c s) b → IsIntermediateBook c s (rounds_steps m c s) b)
              → IsIntermediateBook c s (pass_steps m c s) b ⊎ IsIntermediateBook c (continued_run c s (pass_steps m c s)) (tick_steps c.deal (ticked m).book) b
              → IsIntermediateBook c s (rounds_steps (suc m) c s) b
          go rest (inl i) = along_more c s (rounds_steps m c s) (unless_steps c (rounded m)) b (rest i)
          go rest (inr i) =
              here m b low (along_after c (rounded m) (turns_steps c) (tick_steps c.deal (turns c (rounded m)).book) b
              (subst (λ (t : State). IsIntermediateBook c t (tick_steps c.deal (turns c (rounded m)).book) b) (sym (turns_run c (rounded m)))
              (ticks_same c (ticked m) (turns c (rounded m)) b (turned_at m (omega (arith, le)))
              (subst (λ (t : State). IsIntermediateBook c t (tick_steps c.deal (ticked m).book) b) (pass_run c m s) i))))

      round_way : (t : State) (b : Histories) → length t.notes ≡ c.deal.graph.n → AllIdle c plain t → IsIntermediateBook c (ticks c t) (round_steps c (ticks c t)) b
          → IsIntermediateBook c (round c t) (round_steps c (round c t)) b
      round_way t b far still k = go (along_split c (ticks c t) (turns_steps c) (tick_steps c.deal (turns c (ticks c t)).book) b k)
        where
          same : turns c (round c t) ≡ turns c (ticks c t)
          same = turns_skip c plain t far still

          go : IsIntermediateBook c (ticks c t) (turns_steps c) b
              ⊎ IsIntermediateBook c (continued_run c (ticks c t) (turns_steps c)) (tick_steps c.deal (turns c (ticks c t)).book) b
              → IsIntermediateBook c (round c t) (round_steps c (round c t)) b
          go (inl i) = along_more c (round c t) (turns_steps c) (tick_steps c.deal (turns c (round c t)).book) b (turns_way t b far still i)
          go (inr i) =
              along_after c (round c t) (turns_steps c) (tick_steps c.deal (turns c (round c t)).book) b
              (subst (λ (u : State). IsIntermediateBook c u (tick_steps c.deal (turns c (round c t)).book) b) (sym (turns_run c (round c t)))
              (subst (λ (u : State). IsIntermediateBook c u (tick_steps c.deal u.book) b) (sym same)
              (subst (λ (u : State). IsIntermediateBook c u (tick_steps c.deal (turns c (ticks c t)).book) b) (turns_run c (ticks c t)) i)))

      last_way : (m : ℕ) (b : Histories) → m ≤ n → IsIntermediateBook c (ticked m) (round_steps c (ticked m)) b
          → IsIntermediateBook c (rounded m) (round_steps c (rounded m)) b
      last_way zero b le k = k
      last_way (suc m) b le k =
          subst (λ (t : State). IsIntermediateBook c t (round_steps c t) b) (sym (next_at m (omega (arith, le))))
          (round_way (ticked m) b (many_at m) (idle m (omega (arith, le))) k)

      pub is_skipped : IsSkipped c n s
      is_skipped = record {
        skips = finish_skips c plain n s many on idle;
        pass = λ b k. along_more c s (rounds_steps n c s) (unless_steps c (rounded n)) b (pass_way n b (omega arith) k);
        last = λ b k. here n b (omega arith) (last_way n b (omega arith) k);
      }

  -- no round but the next
  pub none_skipped : (s : State) → is_above_horizon c.deal s.book ≡ false → IsSkipped c 0 s
  none_skipped s on = record {
    skips = ap (λ (y : Bool). cond y s (round c s)) on;
    pass = λ b k. along_start c s (rounds_steps 1 c s) b (along_none c s b k);
    last = λ b k. subst (λ (es : List Event). IsIntermediateBook c s es b) (ap (λ (y : Bool). cond y [] (round_steps c s)) (sym on)) k;
  }
