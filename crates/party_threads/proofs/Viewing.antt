-- Round views, from the rounds.
use Rattle.std.proofs.Common.{◌≡◌, ◌⊎◌, ℕ, zero, suc, ◌+◌, ◌-◌, ◌*◌, ◌<◌, ◌≤◌, true, false, List, [], ◌∷◌, ◌++◌, length, take, Option, None, refl, sym, ap}
use Rattle.std.proofs.Common.{◌∙◌, subst, inl, inr, arith}
use Rattle.swap_base.proofs.Lists.{below_or, bool_or}
use Rattle.std.proofs.lemmas.List.{get_or-map}
use Rattle.std.proofs.Math.ListN.{get_or-eq_default}
use Rattle.ledger_core.specs.declared.entry.Call.{Call}
use Rattle.ledger_core.specs.History.{height}
use Rattle.ledger_core.specs.Book.{Histories, history}
use Rattle.swap_job.specs.declared.moves.Move.{Move}
use Rattle.swap_job.specs.declared.job.Role.{Role}
use Rattle.swap_job.specs.declared.job.Role.TheVariants.{Conforming, Manual, Script, Strategy}
use Rattle.swap_run.specs.Script.{next_call, moves_left}
use Rattle.swap_run.specs.View.{IsView, MayAnswer}
use Rattle.swap_job.specs.Fitting.{is_near}
use Rattle.swap_job.specs.Roles.{role_script}
use Rattle.swap_rules.specs.Machine.{Begins}
use Rattle.swap_rules.proofs.Prefixes.{begins_refl, begins_more, begins_height}
use Rattle.swap_run.specs.Run.{Cast, State, Plan, party_plan, party_role, first_plan, start}
use Rattle.swap_run.specs.Laws.{IsReadyCast, IsGood}
use Rattle.swap_run.proofs.Good.{empty_at}
use Rattle.swap_world.specs.Gone.{MayGive}
use Rattle.party_threads.specs.Played.{IsPlanAnswer, sender_calls, arc_answer}
use Rattle.party_threads.specs.Views.{arc_answers, made_calls, moves_after_views, AreAnswered, PlaysByViews, HasPlayedInRound}

-- cutting twice at one place is cutting once
take_more : {A : Type 0} (n : ℕ) (xs ys : List A) → take n (take n xs ++ ys) ≡ take n (xs ++ ys)
take_more zero xs ys = refl
take_more (suc n) [] ys = refl
take_more (suc n) (x ∷ xs) ys = ap (λ w. x ∷ w) (take_more n xs ys)

module _ (gives : MayGive) (c : Cast) (ticks rounds : ℕ) (states : ℕ → State) (v : ℕ) (lv : v < c.deal.graph.n) (ready : IsReadyCast c)
    (first : states 0 ≡ start c) (good : (r : ℕ) → r ≤ rounds → IsGood c (states r))
    (level : (r a : ℕ) → r ≤ rounds → a < length c.deal.graph.arcs → height (history (states r).book a) ≡ r * ticks)
    (grows : (r a : ℕ) → r < rounds → Begins (history (states r).book a) (history (states (r + 1)).book a))
    (played : (r : ℕ) → r < rounds → HasPlayedInRound gives c (states r) (states (r + 1)) v) where
  next : (r : ℕ) → r + 1 ≡ suc r
  next r = omega arith

  -- The views and the answers. Those past the last round don't matter.

  abbrev turn_in : (r : ℕ) → (r < rounds) ⊎ (rounds ≤ r) → (view : Histories) × Option (ℕ × Call)
  turn_in r (inl l) = ((played r l).view, (played r l).answer)
  turn_in r (inr ge) = ([], None)

  abbrev views : ℕ → Histories
  views r = (turn_in r (below_or r rounds)).0

  abbrev answers : ℕ → Option (ℕ × Call)
  answers r = (turn_in r (below_or r rounds)).1

  -- What a view keeps.
  record IsTurn (r : ℕ) (view : Histories) (answer : Option (ℕ × Call)) : Type 0 where
    shown : IsView c.deal v view
    seen : (a : ℕ) → a < length c.deal.graph.arcs → is_near c.deal v a ≡ true → Begins (history (states r).book a) (history view a)
    begins : (a : ℕ) → Begins (history view a) (history (states (suc r)).book a)
    own : (a : ℕ) → a < length c.deal.graph.arcs → sender_calls v (history view a) ≡ sender_calls v (history (states r).book a)
    called : (a : ℕ) → a < length c.deal.graph.arcs
        → sender_calls v (history (states (suc r)).book a) ≡ take 32 (sender_calls v (history (states r).book a) ++ arc_answer a answer)
    answered : IsPlanAnswer gives c.deal c.seeds v view answer (party_plan (states r) v) (party_plan (states (suc r)) v) (party_role c v)
    may : MayAnswer c.deal v answer
    turns : (party_plan (states (suc r)) v).turns ≡ (party_plan (states r) v).turns + 1

  played_next : (r : ℕ) (l : r < rounds) (t : ℕ) → r + 1 ≡ t
      → (k : HasPlayedInRound gives c (states r) (states t) v) × (k.view ≡ (played r l).view) × (k.answer ≡ (played r l).answer)
  played_next r l t e =
      subst (λ m. (k : HasPlayedInRound gives c (states r) (states m) v) × (k.view ≡ (played r l).view) × (k.answer ≡ (played r l).answer)) e (played r l, refl, refl)

  is_turn_in : (r : ℕ) → r < rounds → (o : (r < rounds) ⊎ (rounds ≤ r)) → IsTurn r (turn_in r o).0 (turn_in r o).1
  is_turn_in r lt (inl l) =
      let k = played_next r l (suc r) (next r) in
      subst (λ (w : Histories × Option (ℕ × Call)). IsTurn r w.0 w.1) (λ i. (k.1 i, k.2 i)) (record {
        shown = k.0.shown;
        seen = k.0.seen;
        begins = k.0.begins;
        own = k.0.own;
        called = k.0.called;
        answered = k.0.answered;
        may = k.0.may;
        turns = k.0.turns;
      })
  is_turn_in r lt (inr ge) = absurd (omega (arith, lt, ge))

  is_turn : (r : ℕ) → r < rounds → IsTurn r (views r) (answers r)
  is_turn r lt = is_turn_in r lt (below_or r rounds)

  grown : (r m a : ℕ) → r + m ≤ rounds → Begins (history (states r).book a) (history (states (r + m)).book a)
  grown r zero a l = subst (λ n. Begins (history (states r).book a) (history (states n).book a)) (omega arith) (begins_refl (history (states r).book a))
  grown r (suc m) a l =
      let here : r + m + 1 ≡ r + suc m = omega arith in
      begins_more (history (states r).book a) (history (states (r + m)).book a) (history (states (r + suc m)).book a) (grown r m a (omega (arith, l)))
      (subst (λ n. Begins (history (states (r + m)).book a) (history (states n).book a)) here (grows (r + m) a (omega (arith, l))))

  to_end : (r a : ℕ) → r ≤ rounds → Begins (history (states r).book a) (history (states rounds).book a)
  to_end r a l =
      let m : ℕ = rounds - r in
      let e : r + m ≡ rounds = omega (arith, l) in
      subst (λ n. Begins (history (states r).book a) (history (states n).book a)) e (grown r m a (omega (arith, e)))

  called_so_far : (r a : ℕ) → r ≤ rounds → a < length c.deal.graph.arcs → sender_calls v (history (states r).book a) ≡ made_calls a answers r
  called_so_far zero a l la = ap (λ (s : State). sender_calls v (history s.book a)) first ∙ ap (sender_calls v) (empty_at c.deal a)
  called_so_far (suc r) a l la =
      (is_turn r (omega (arith, l))).called a la
      ∙ (ap (λ cs. take 32 (cs ++ arc_answer a (answers r))) (called_so_far r a (omega (arith, l)) la)
      ∙ take_more 32 (arc_answers a answers r) (arc_answer a (answers r)))

  turns_so_far : (r : ℕ) → r ≤ rounds → (party_plan (states 0) v).turns ≡ 0 → (party_plan (states r) v).turns ≡ r
  turns_so_far zero l z = z
  turns_so_far (suc r) l z =
      let n = turns_so_far r (omega (arith, l)) z in
      (is_turn r (omega (arith, l))).turns ∙ (ap (λ k. k + 1) n ∙ next r)

  moves_so_far : (r : ℕ) (moves : List Move) → r ≤ rounds → party_role c v ≡ Script moves → (party_plan (states 0) v).moves ≡ moves
      → (party_plan (states r) v).moves ≡ moves_after_views views moves r
  moves_so_far zero moves l e z = z
  moves_so_far (suc r) moves l e z =
      let t = is_turn r (omega (arith, l)) in
      let k = subst (IsPlanAnswer gives c.deal c.seeds v (views r) (answers r) (party_plan (states r) v) (party_plan (states (suc r)) v)) e t.answered in
      k.1 ∙ ap (moves_left (views r)) (moves_so_far r moves (omega (arith, l)) e z)

  plan_first : party_plan (states 0) v ≡ first_plan c.deal (party_role c v)
  plan_first =
      ap (λ (s : State). party_plan s v) first
      ∙ get_or-map (first_plan c.deal) c.roles v Manual (record { known = []; moves = []; turns = 0 }) (subst (λ n. v < n) (sym ready.roles) lv)

  first_of_role : (party_plan (states 0) v).moves ≡ role_script (party_role c v)
  first_of_role = ap (λ (n : Plan). n.moves) plan_first

  no_turns : (party_plan (states 0) v).turns ≡ 0
  no_turns = ap (λ (n : Plan). n.turns) plan_first

  answered_by : (role : Role) → party_role c v ≡ role → AreAnswered gives c rounds v views answers role
  answered_by (Script moves) e = λ r lt.
      let t = is_turn r lt in
      let k = subst (IsPlanAnswer gives c.deal c.seeds v (views r) (answers r) (party_plan (states r) v) (party_plan (states (suc r)) v)) e t.answered in
      k.0 ∙ ap (next_call c.deal c.seeds (views r)) (moves_so_far r moves (omega (arith, lt)) e (first_of_role ∙ ap role_script e))
  answered_by (Strategy name) e = λ r lt.
      let t = is_turn r lt in
      subst (λ n. gives name c.deal v n (views r) (answers r)) (turns_so_far r (omega (arith, lt)) no_turns)
      (subst (IsPlanAnswer gives c.deal c.seeds v (views r) (answers r) (party_plan (states r) v) (party_plan (states (suc r)) v)) e t.answered)
  answered_by Conforming e = tt
  answered_by Manual e = tt

  near_or_not : (r a : ℕ) → suc r < rounds → a < length c.deal.graph.arcs → (is_near c.deal v a ≡ true) ⊎ (is_near c.deal v a ≡ false)
      → Begins (history (views r) a) (history (views (suc r)) a)
  near_or_not r a l la (inl near) =
      begins_more (history (views r) a) (history (states (suc r)).book a) (history (views (suc r)) a) ((is_turn r (omega (arith, l))).begins a)
      ((is_turn (suc r) l).seen a la near)
  near_or_not r a l la (inr far) =
      subst (λ h. Begins h (history (views (suc r)) a)) (sym ((is_turn r (omega (arith, l))).shown.far a la far)) (history (views (suc r)) a, refl)

  inside_or_not : (r a : ℕ) → suc r < rounds → (a < length c.deal.graph.arcs) ⊎ (length c.deal.graph.arcs ≤ a)
      → Begins (history (views r) a) (history (views (suc r)) a)
  inside_or_not r a l (inl la) = near_or_not r a l la (bool_or (is_near c.deal v a))
  inside_or_not r a l (inr ge) =
      let wide : length (views r) ≡ length c.deal.graph.arcs = (is_turn r (omega (arith, l))).shown.legal.one_each in
      let none : history (views r) a ≡ [] = get_or-eq_default (views r) [] (subst (λ n. n ≤ a) (sym wide) ge) in
      subst (λ h. Begins h (history (views (suc r)) a)) (sym none) (history (views (suc r)) a, refl)

  grown_views : (r a : ℕ) → r + 1 < rounds → Begins (history (views r) a) (history (views (r + 1)) a)
  grown_views r a l =
      subst (λ n. Begins (history (views r) a) (history (views n) a)) (sym (next r))
      (inside_or_not r a (subst (λ n. n < rounds) (next r) l) (below_or a (length c.deal.graph.arcs)))

  pub plays_by_views : PlaysByViews gives c ticks rounds (states rounds).book v
  plays_by_views = record {
    views = views;
    answers = answers;
    are = record {
      shown = λ r l. (is_turn r l).shown;
      begins = λ r a l.
          begins_more (history (views r) a) (history (states (suc r)).book a) (history (states rounds).book a) ((is_turn r l).begins a)
          (to_end (suc r) a (omega (arith, l)));
      high = λ r a l la near.
          let h = begins_height (history (states r).book a) (history (views r) a) ((is_turn r l).seen a la near) in
          let at = level r a (omega (arith, l)) la in
          omega (arith, h, at);
      grows = λ r a l. grown_views r a l;
      own = λ r a l la. (is_turn r l).own a la ∙ called_so_far r a (omega (arith, l)) la;
      may = λ r l. (is_turn r l).may;
      calls = λ a la. called_so_far rounds a (omega arith) la;
    };
    answered = answered_by (party_role c v) refl;
  }
