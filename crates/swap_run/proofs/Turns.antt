-- What a turn leaves: no ledger ticks, the others' notes stay, and a conforming party has seen each
-- arc that touches it and has nothing due.
use Rattle.std.proofs.Common.{◌≡◌, ◌≢◌, ◌⊎◌, ℕ, suc, zero, ◌+◌, ◌<◌, ◌==◌, Bool, true, false, cond, ◌||◌, List, [], ◌∷◌, ◌++◌, length, fold, Option}
use Rattle.std.proofs.Common.{Some, None, refl, sym, ap, ◌∙◌, subst, inl, inr, arith, eq-eqb, set, slice_index_or}
use Rattle.std.proofs.lemmas.List.Sums.{sum_by-cons}
use Rattle.swap_base.specs.Lists.{IsElement}
use Rattle.swap_base.proofs.Lists.{in_filter, from_filter, from_range, or-right}
use Rattle.swap_digraph.specs.declared.deal.Deal.{Deal}
use Rattle.swap_digraph.specs.Deal.{party, counterparty}
use Rattle.swap_digraph.specs.Graph.{arcs}
use Rattle.ledger_core.specs.declared.entry.Call.{Call}
use Rattle.ledger_core.specs.declared.entry.Sender.TheVariants.{Party}
use Rattle.ledger_core.specs.declared.entry.What.TheVariants.{Call as Made}
use Rattle.ledger_core.specs.declared.entry.Entry.{Entry}
use Rattle.ledger_core.specs.History.{height, entry_ticks}
use Rattle.ledger_core.specs.Book.{Histories, history}
use Rattle.swap_job.specs.declared.event.Event.TheVariants.{Look, Act}
use Rattle.swap_job.specs.declared.job.Role.{Role}
use Rattle.swap_job.specs.declared.job.Role.TheVariants.{Conforming, Manual, Script, Strategy}
use Rattle.swap_run.specs.Script.{next_call, moves_left}
use Rattle.swap_job.specs.Step.{CanLook}
use Rattle.swap_run.specs.View.{IsPartyAnswer, MayAnswer}
use Rattle.swap_run.proofs.Scripts.{left_fit}
use Rattle.swap_rules.specs.Due.{Action}
use Rattle.swap_rules.specs.Machine.{Begins}
use Rattle.swap_rules.specs.Rounds.{IsNear}
use Rattle.ledger_core.proofs.History.{height_append}
use Rattle.swap_rules.proofs.Words.{enters, leaves, or-left}
use Rattle.swap_rules.proofs.Prefixes.{begins_refl, begins_more, same_or_not}
use Rattle.swap_rules.proofs.Growth.{Grows}
use Rattle.swap_rules.proofs.Conducting.{Next, next_call as next_of_call, Still, Pushed, next_grows, history_same, history_other}
use Rattle.swap_run.specs.Run.{Cast, State, conforms, party_role, state_notes, party_plan, plan_with_ledger, is_planned, signed_through_call, notes_with_ledger, look, make}
use Rattle.swap_run.specs.Run.{next_action, act, watch, take_call, after_turn, question, after_question, answered_call, role_act, step}
use Rattle.ledger_core.specs.Ledger.{after_call}
use Rattle.swap_job.specs.Fitting.{is_near, IsPartyMove}
use Rattle.swap_run.specs.Laws.{IsReadyCast, IsGood}
use Rattle.swap_run.specs.Fair.{adjacent_arcs, looks, acts, most_acts, turn}
use Rattle.swap_run.specs.FairLaws.{OthersRest, TurnsAreGood}
use Rattle.swap_run.proofs.Noted.{due_now}
use Rattle.swap_run.proofs.Plans.{good_turn, good_asked, answer_may}
use Rattle.swap_run.proofs.Good.{holds, note_same, note_other, in_book, good_look, script_may, steps_are_good}
use Rattle.swap_run.proofs.Repeats.{fold_fixed}
use Rattle.swap_run.proofs.Acts.{act_is, all_due, acts_good, at_rest}
use Rattle.swap_rules.proofs.Cases.{first_in}

pub height_push : (h : List Entry) (e : Entry) → height (h ++ e ∷ []) ≡ height h + entry_ticks e.what
height_push h e =
    let e1 = height_append h (e ∷ []) in
    let e2 : height (e ∷ []) ≡ entry_ticks e.what + height [] = sum_by-cons (λ e. entry_ticks e.what) e [] in
    let e3 : height [] ≡ 0 = refl in
    omega arith

-- Steps that tick nothing.
pub record Calm (b c : Histories) : Type 0 where
  pub grows : Grows b c
  pub heights : (a : ℕ) → height (history c a) ≡ height (history b a)

pub calm_refl : (b : Histories) → Calm b b
calm_refl b = record { grows = λ a. begins_refl (history b a); heights = λ a. refl }

pub calm_more : (b c e : Histories) → Calm b c → Calm c e → Calm b e
calm_more b c e x y = record {
  grows = λ a. begins_more (history b a) (history c a) (history e a) (x.grows a) (y.grows a);
  heights = λ a. y.heights a ∙ x.heights a;
}

calm_next : (d : Deal) (b : Histories) (a : ℕ) (k : List Entry) (v : ℕ) (c : Call) → a < length b → Next d a (history b a) k (Party v) (Made c)
    → Calm b (set b a k)
calm_next d b a k v c below n = record { grows = next_grows d b a k (Party v) (Made c) below n; heights = λ z. at z (same_or_not z a) }
  where
    flat : Next d a (history b a) k (Party v) (Made c) → height k ≡ height (history b a)
    flat (Still e) = ap height e
    flat (Pushed e q es ew le) =
        let e1 = height_push (history b a) e in
        let e2 : entry_ticks e.what ≡ 0 = ap entry_ticks ew in
        let e3 : ◌≡◌ {A = ℕ} (height k) (height (history b a ++ e ∷ [])) = ap height q in
        omega arith

    at : (z : ℕ) → (z ≡ a) ⊎ (z ≢ a) → height (history (set b a k) z) ≡ height (history b z)
    at z (inl e) = ap (λ y. height (history (set b a k) y)) e ∙ (ap height (history_same b a k below) ∙ (flat n ∙ ap (λ y. height (history b y)) (sym e)))
    at z (inr e) = ap height (history_other b a z k e)

-- Arcs that touch v.

near_in : (d : Deal) (v a : ℕ) → IsNear d v a → IsElement a (adjacent_arcs d v)
near_in d v a (inl i) =
    let k = from_filter (λ a. party d a == v) a (arcs d.graph) i in
    in_filter (λ a. (v == party d a) || (v == counterparty d a)) a (arcs d.graph) k.0
    (or-left (v == party d a) _ (eq-eqb v (party d a) (sym (leaves d v a i).1)))
near_in d v a (inr i) =
    let k = from_filter (λ a. counterparty d a == v) a (arcs d.graph) i in
    in_filter (λ a. (v == party d a) || (v == counterparty d a)) a (arcs d.graph) k.0
    (or-right (v == party d a) _ (eq-eqb v (counterparty d a) (sym (enters d v a i).1)))

near_below : (d : Deal) (v a : ℕ) → IsElement a (adjacent_arcs d v) → (a < length d.graph.arcs) × (is_near d v a ≡ true)
near_below d v a i =
    let k = from_filter (λ a. (v == party d a) || (v == counterparty d a)) a (arcs d.graph) i in
    (from_range a (length d.graph.arcs) k.0, k.1)

-- What a turn of v leaves of the book and of the others' notes.
pub record Turned (c : Cast) (v : ℕ) (s t : State) : Type 0 where
  pub good : IsGood c t
  pub calm : Calm s.book t.book
  pub others : (u : ℕ) → u ≢ v → state_notes t u ≡ state_notes s u

-- What it leaves of the notes of v, where v conforms.
pub record Rests (c : Cast) (v : ℕ) (s t : State) : Type 0 where
  pub turned : Turned c v s t
  pub seen : (a : ℕ) → IsNear c.deal v a → Begins (history s.book a) (history (state_notes t v).known a)
  pub rest : next_action c t v ≡ None

module _ (c : Cast) (ready : IsReadyCast c) (v : ℕ) (lv : v < c.deal.graph.n) (cv : conforms c v ≡ true) where
  -- Looks.

  abbrev look_at : State → ℕ → State
  look_at s a = step c s (Look v a)

  look_is : (s : State) (a : ℕ) → step c s (Look v a) ≡ look s v a
  look_is s a = ap (λ z. cond z (look s v a) (watch c s v a)) cv

  -- the arc touches v
  abbrev Touches : ℕ → Type 0
  Touches a = (a < length c.deal.graph.arcs) × (is_near c.deal v a ≡ true)

  look_good : (s : State) (a : ℕ) → Touches a → IsGood c s → IsGood c (step c s (Look v a))
  look_good s a l g = subst (IsGood c) (sym (look_is s a)) (good_look c s v a lv l.0 l.1 g)

  looks_good : (xs : List ℕ) (s : State) → ((a : ℕ) → IsElement a xs → Touches a) → IsGood c s → IsGood c (fold look_at s xs)
  looks_good [] s h g = g
  looks_good (x ∷ xs) s h g = looks_good xs (look_at s x) (λ a i. h a (inr i)) (look_good s x (h x (inl refl)) g)

  looks_book : (xs : List ℕ) (s : State) → (fold look_at s xs).book ≡ s.book
  looks_book [] s = refl
  looks_book (x ∷ xs) s = looks_book xs (look_at s x) ∙ ap (λ t. t.book) (look_is s x)

  looks_others : (xs : List ℕ) (s : State) (u : ℕ) → u ≢ v → state_notes (fold look_at s xs) u ≡ state_notes s u
  looks_others [] s u n = refl
  looks_others (x ∷ xs) s u n =
      looks_others xs (look_at s x) u n ∙ (ap (λ t. state_notes t u) (look_is s x)
      ∙ note_other s s.book v u (notes_with_ledger (state_notes s v) x (history s.book x)) n)

  -- v knows the ledger of a as it stands
  abbrev Sees : ℕ → State → Type 0
  Sees a s = history (state_notes s v).known a ≡ history s.book a

  noted_look : (s : State) (x : ℕ) → IsGood c s → state_notes (look s v x) v ≡ notes_with_ledger (state_notes s v) x (history s.book x)
  noted_look s x g = note_same s s.book v (notes_with_ledger (state_notes s v) x (history s.book x)) (subst (λ m. v < m) (sym g.one_each) lv)

  look_here : (x a : ℕ) (s : State) → x < length c.deal.graph.arcs → IsGood c s → a ≡ x → Sees a (look s v x)
  look_here x a s l g e =
      let hv = holds c s v (g.notes v lv cv) in
      ap (λ n. history n.known a) (noted_look s x g) ∙ (ap (history (set (state_notes s v).known x (history s.book x))) e
      ∙ (history_same (state_notes s v).known x (history s.book x) (subst (λ m. x < m) (sym hv.one_each) l) ∙ ap (history s.book) (sym e)))

  look_sees : (x a : ℕ) (s : State) → x < length c.deal.graph.arcs → IsGood c s → (a ≡ x) ⊎ Sees a s → Sees a (look_at s x)
  look_sees x a s l g (inl e) = subst (Sees a) (sym (look_is s x)) (look_here x a s l g e)
  look_sees x a s l g (inr h) = go (same_or_not a x)
    where
      go : (a ≡ x) ⊎ (a ≢ x) → Sees a (look_at s x)
      go (inl e) = subst (Sees a) (sym (look_is s x)) (look_here x a s l g e)
      go (inr n) =
          subst (Sees a) (sym (look_is s x)) (ap (λ n. history n.known a) (noted_look s x g)
          ∙ (history_other (state_notes s v).known x a (history s.book x) n ∙ h))

  looks_see : (xs : List ℕ) (s : State) (a : ℕ) → ((a : ℕ) → IsElement a xs → Touches a) → IsGood c s → Sees a s ⊎ IsElement a xs
      → Sees a (fold look_at s xs)
  looks_see [] s a h g (inl e) = e
  looks_see [] s a h g (inr i) = absurd i
  looks_see (x ∷ xs) s a h g (inl e) =
      looks_see xs (look_at s x) a (λ a i. h a (inr i)) (look_good s x (h x (inl refl)) g) (inl (look_sees x a s (h x (inl refl)).0 g (inr e)))
  looks_see (x ∷ xs) s a h g (inr (inl e)) =
      looks_see xs (look_at s x) a (λ a i. h a (inr i)) (look_good s x (h x (inl refl)) g) (inl (look_sees x a s (h x (inl refl)).0 g (inl e)))
  looks_see (x ∷ xs) s a h g (inr (inr i)) = looks_see xs (look_at s x) a (λ a i. h a (inr i)) (look_good s x (h x (inl refl)) g) (inr i)

  -- Acts.

  record Acted (s t : State) : Type 0 where
    calm : Calm s.book t.book
    others : (u : ℕ) → u ≢ v → state_notes t u ≡ state_notes s u
    own : (a : ℕ) → Begins (history (state_notes s v).known a) (history (state_notes t v).known a)

  acted_refl : (s : State) → Acted s s
  acted_refl s = record { calm = calm_refl s.book; others = λ u n. refl; own = λ a. begins_refl (history (state_notes s v).known a) }

  made_acted : (s : State) (x : Action) → IsGood c s → IsElement x (all_due c ready v lv cv s) → Acted s (make c.deal s v (Some x))
  made_acted s x g i =
      let hv = holds c s v (g.notes v lv cv) in
      let is = due_now c.deal s.book (state_notes s v) v (c.wallet v) x (ready.wallets v lv cv) ready.accepted i hv in
      let below : x.arc < length s.book = in_book c s x.arc g is.below in
      let n = next_of_call c.deal x.arc (history s.book x.arc) v x.call is.of_the_two is.fits in
      record {
        calm = calm_next c.deal s.book x.arc (after_call c.deal x.arc v x.call (history s.book x.arc)) v x.call below n;
        others =
            λ u m. note_other s (set s.book x.arc after) v u (record {
              known = set (state_notes s v).known x.arc after;
              signed =
                  signed_through_call (state_notes s v).signed x.call;
            }) m;
        own =
            λ a. subst (λ n. Begins (history (state_notes s v).known a) (history n.known a))
            (sym (note_same s (set s.book x.arc after) v (record {
              known = set (state_notes s v).known x.arc after;
              signed =
                  signed_through_call (state_notes s v).signed x.call;
            }) (subst (λ m. v < m) (sym g.one_each) lv)))
            (at a (subst (λ m. x.arc < m) (sym hv.one_each) is.below) below n (hv.knows a).rest (hv.knows a).whole (same_or_not a x.arc));
      }
    where
      after : List Entry
      after = after_call c.deal x.arc v x.call (history s.book x.arc)

      at : (a : ℕ) → x.arc < length (state_notes s v).known → x.arc < length s.book
          → Next c.deal x.arc (history s.book x.arc) (after_call c.deal x.arc v x.call (history s.book x.arc)) (Party v) (Made x.call)
          → (rest : List Entry) → history s.book a ≡ history (state_notes s v).known a ++ rest → (a ≡ x.arc) ⊎ (a ≢ x.arc)
          → Begins (history (state_notes s v).known a) (history (set (state_notes s v).known x.arc (after_call c.deal x.arc v x.call (history s.book x.arc))) a)
      at a here below n rest whole (inl e) =
          subst (Begins (history (state_notes s v).known a))
          (sym (ap (history (set (state_notes s v).known x.arc (after_call c.deal x.arc v x.call (history s.book x.arc)))) e
          ∙ history_same (state_notes s v).known x.arc (after_call c.deal x.arc v x.call (history s.book x.arc)) here))
          (begins_more (history (state_notes s v).known a) (history s.book a) (after_call c.deal x.arc v x.call (history s.book x.arc)) (rest, whole)
          (subst (λ y. Begins (history s.book y) (after_call c.deal x.arc v x.call (history s.book x.arc))) (sym e)
          (subst (Begins (history s.book x.arc)) (history_same s.book x.arc (after_call c.deal x.arc v x.call (history s.book x.arc)) below)
          (next_grows c.deal s.book x.arc (after_call c.deal x.arc v x.call (history s.book x.arc)) (Party v) (Made x.call) below n x.arc))))
      at a here below n rest whole (inr e) =
          subst (Begins (history (state_notes s v).known a)) (sym (history_other (state_notes s v).known x.arc a _ e))
          (begins_refl (history (state_notes s v).known a))

  act_acted : (s : State) → IsGood c s → Acted s (step c s (Act v))
  act_acted s g = go (next_action c s v) refl
    where
      go : (o : Option Action) → next_action c s v ≡ o → Acted s (step c s (Act v))
      go None e = subst (Acted s) (sym (act_is c ready v lv cv s ∙ ap (make c.deal s v) e)) (acted_refl s)
      go (Some x) e = subst (Acted s) (sym (act_is c ready v lv cv s ∙ ap (make c.deal s v) e)) (made_acted s x g (first_in (all_due c ready v lv cv s) x e))

  acts_acted : (n : ℕ) (s : State) → IsGood c s → Acted s (acts c v n s)
  acts_acted zero s g = acted_refl s
  acts_acted (suc n) s g =
      let x = acts_acted n s g in
      let y = act_acted (acts c v n s) (acts_good c ready v lv cv n s g) in
      record {
        calm = calm_more s.book (acts c v n s).book (step c (acts c v n s) (Act v)).book x.calm y.calm;
        others = λ u m. y.others u m ∙ x.others u m;
        own =
            λ a. begins_more (history (state_notes s v).known a) (history (state_notes (acts c v n s) v).known a)
            (history (state_notes (step c (acts c v n s) (Act v)) v).known a) (x.own a) (y.own a);
      }

  turn_is : (s : State) → turn c s v ≡ acts c v (most_acts c.deal) (looks c v s)
  unfolding turn
  turn_is s = ap (λ b. cond b (acts c v (most_acts c.deal) (looks c v s)) (step c (looks c v s) (Act v))) cv

  -- a turn of a party that conforms
  pub rested : (s : State) → IsGood c s → Rests c v s (turn c s v)
  unfolding looks
  rested s g =
      subst (Rests c v s) (sym (turn_is s)) (
      let xs = adjacent_arcs c.deal v in
      let low : (a : ℕ) → IsElement a (adjacent_arcs c.deal v) → Touches a = near_below c.deal v in
      let g1 = looks_good (adjacent_arcs c.deal v) s low g in
      let x = acts_acted (most_acts c.deal) (looks c v s) g1 in
      record {
        turned = record {
          good = acts_good c ready v lv cv (most_acts c.deal) (looks c v s) g1;
          calm = subst (λ b. Calm b (acts c v (most_acts c.deal) (looks c v s)).book) (looks_book (adjacent_arcs c.deal v) s) x.calm;
          others = λ u n. x.others u n ∙ looks_others (adjacent_arcs c.deal v) s u n;
        };
        seen = λ a i. subst (λ h. Begins h (history (state_notes (acts c v (most_acts c.deal) (looks c v s)) v).known a))
            (looks_see (adjacent_arcs c.deal v) s a low g (inr (near_in c.deal v a i)) ∙ ap (λ b. history b a) (looks_book (adjacent_arcs c.deal v) s))
            (x.own a);
        rest = at_rest c ready v lv cv (looks c v s) g1;
      })

-- A party that doesn't conform.
module _ (c : Cast) (ready : IsReadyCast c) (v : ℕ) (lv : v < c.deal.graph.n) (out : conforms c v ≡ false) where
  -- What it leaves of the book and of the notes.
  record Deviated (s t : State) : Type 0 where
    pub good : IsGood c t
    pub calm : Calm s.book t.book
    pub notes : t.notes ≡ s.notes

  watch_is : (s : State) (a : ℕ) → step c s (Look v a) ≡ watch c s v a
  watch_is s a = ap (λ b. cond b (look s v a) (watch c s v a)) out

  watched : (xs : List ℕ) (s : State) → ((a : ℕ) → IsElement a xs → CanLook c.deal v a) → IsGood c s → Deviated s (fold (λ s a. step c s (Look v a)) s xs)
  watched [] s can g = record { good = g; calm = calm_refl s.book; notes = refl }
  watched (x ∷ xs) s can g =
      let w = watch_is s x in
      let g1 = steps_are_good c s (Look v x) ready (can x (inl refl)) g in
      let r = watched xs (step c s (Look v x)) (λ a i. can a (inr i)) g1 in
      record {
        good = r.good;
        calm = subst (λ b. Calm b (fold (λ s a. step c s (Look v a)) (step c s (Look v x)) xs).book) (ap (λ t. t.book) w) r.calm;
        notes = r.notes ∙ ap (λ t. t.notes) w;
      }

  looked : (s : State) → IsGood c s → Deviated s (looks c v s)
  unfolding looks
  looked s g = watched (adjacent_arcs c.deal v) s (λ a i.
      let k = from_filter (λ a. (v == party c.deal a) || (v == counterparty c.deal a)) a (arcs c.deal.graph) i in
      record { known = lv; arc = from_range a (length c.deal.graph.arcs) k.0; adjacent = k.1 }) g

  take_calm : (s : State) (o : Option (ℕ × Call)) → MayAnswer c.deal v o → IsGood c s → Calm s.book (take_call c s v o).book
  take_calm s None may g = calm_refl s.book
  take_calm s (Some x) may g =
      let is : IsPartyAnswer c.deal v x = may x refl in
      calm_next c.deal s.book x.0 (after_call c.deal x.0 v x.1 (history s.book x.0)) v x.1 (in_book c s x.0 g is.arc)
      (next_of_call c.deal x.0 (history s.book x.0) v x.1 is.near is.fits)

  take_notes : (s : State) (o : Option (ℕ × Call)) → (take_call c s v o).notes ≡ s.notes
  take_notes s None = refl
  take_notes s (Some x) = refl

  act_calm : (s : State) (role : Role) → IsGood c s → Calm s.book (role_act c s v role).book
  act_calm s Conforming g = calm_refl s.book
  act_calm s Manual g = calm_refl s.book
  act_calm s (Script moves) g =
      let p = g.plans v lv in
      take_calm (after_turn s v (moves_left (party_plan s v).known (party_plan s v).moves)) (next_call c.deal c.seeds (party_plan s v).known
      (party_plan s v).moves)
      (script_may c s v lv g)
      (good_turn c s v (moves_left (party_plan s v).known (party_plan s v).moves) lv
      (left_fit (IsPartyMove c.deal c.seeds v) (party_plan s v).known (party_plan s v).moves p.moves) g)
  act_calm s (Strategy name) g =
      take_calm (after_question s v name) (answered_call c.deal v (c.answers (length s.asked))) (answer_may c.deal v (c.answers (length s.asked)))
      (good_asked c (after_turn s v (party_plan s v).moves) (s.asked ++ question s v name ∷ [])
      (good_turn c s v (party_plan s v).moves lv (g.plans v lv).moves g))

  act_notes : (s : State) (role : Role) → (role_act c s v role).notes ≡ s.notes
  act_notes s Conforming = refl
  act_notes s Manual = refl
  act_notes s (Script moves) =
      take_notes (after_turn s v (moves_left (party_plan s v).known (party_plan s v).moves))
      (next_call c.deal c.seeds (party_plan s v).known (party_plan s v).moves)
  act_notes s (Strategy name) = take_notes (after_question s v name) (answered_call c.deal v (c.answers (length s.asked)))

  act_is_as : (s : State) → step c s (Act v) ≡ role_act c s v (party_role c v)
  act_is_as s = ap (λ b. cond b (act c s v) (role_act c s v (party_role c v))) out

  pub deviated : (s : State) → IsGood c s → Turned c v s (turn c s v)
  unfolding turn
  deviated s g =
      let x = looked s g in
      let e = act_is_as (looks c v s) in
      let calm : Calm (looks c v s).book (step c (looks c v s) (Act v)).book =
      subst (λ t. Calm (looks c v s).book t.book) (sym e) (act_calm (looks c v s) (party_role c v) x.good) in
      let notes : (step c (looks c v s) (Act v)).notes ≡ s.notes = ap (λ t. t.notes) e ∙ (act_notes (looks c v s) (party_role c v) ∙ x.notes) in
      subst (Turned c v s) (sym (ap (λ b. cond b (acts c v (most_acts c.deal) (looks c v s)) (step c (looks c v s) (Act v))) out)) (record {
        good = steps_are_good c (looks c v s) (Act v) ready lv x.good;
        calm = calm_more s.book (looks c v s).book (step c (looks c v s) (Act v)).book x.calm calm;
        others = λ u n. ap (λ ns. slice_index_or ns u (record { known = []; signed = [] })) notes;
      })

pub others_rest : OthersRest
unfolding turn looks
others_rest c s v out none =
    ap (λ b. cond b (acts c v (most_acts c.deal) (looks c v s)) (step c (looks c v s) (Act v))) out
    ∙ (ap (λ t. step c t (Act v)) (fold_fixed (λ s a. step c s (Look v a)) s (adjacent_arcs c.deal v) look_rests)
    ∙ (ap (λ b. cond b (act c s v) (role_act c s v (party_role c v))) out ∙ act_rests (party_role c v) none))
  where
    look_rests : (a : ℕ) → step c s (Look v a) ≡ s
    look_rests a =
        ap (λ b. cond b (look s v a) (watch c s v a)) out
        ∙ ap (λ b. record s { plans = cond b (set s.plans v (plan_with_ledger (party_plan s v) a (history s.book a))) s.plans }) none

    act_rests : (role : Role) → is_planned role ≡ false → role_act c s v role ≡ s
    act_rests Conforming e = refl
    act_rests Manual e = refl
    act_rests (Script moves) e = absurd (cc e)
    act_rests (Strategy name) e = absurd (cc e)

pub turned : (c : Cast) (ready : IsReadyCast c) (v : ℕ) → v < c.deal.graph.n → (s : State) → IsGood c s → Turned c v s (turn c s v)
turned c ready v lv s g = go (conforms c v) refl
  where
    go : (x : Bool) → conforms c v ≡ x → Turned c v s (turn c s v)
    go true cv = (rested c ready v lv cv s g).turned
    go false e = deviated c ready v lv e s g

pub turns_are_good : TurnsAreGood
turns_are_good c s v ready g lv = (turned c ready v lv s g).good
