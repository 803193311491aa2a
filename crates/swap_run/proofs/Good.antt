-- A run begins in a good state, each event leaves the state good, and in a good state the book is
-- legal and every conforming party is conducted.
use Rattle.std.proofs.Common.{if◌then◌else◌, ◌≡◌, ◌≢◌, ◌⊎◌, ℕ, suc, ◌<◌, ◌≤◌, ◌==◌, nat_lt, Bool, true, false, cond, List, [], ◌∷◌, ◌++◌, length, fold, Option}
use Rattle.std.proofs.Common.{Some, None, refl, sym, ap, ◌∙◌, subst, inl, inr, arith, eqb-true, ltb-true, ltb-false, set, slice_set, replicate, get_or, All}
use Rattle.std.proofs.lemmas.Bool.{false≢true}
use Rattle.std.proofs.lemmas.List.{get_or-set_same, get_or-set_other, get_or-map, length-map, length-set, length-replicate, get_or-replicate}
use Rattle.std.proofs.Math.ListN.{get_or-eq_default}
use Rattle.swap_base.specs.Lists.{IsElement, IsMoment}
use Rattle.swap_digraph.specs.declared.deal.Deal.{Deal}
use Rattle.ledger_core.specs.declared.entry.Call.{Call}
use Rattle.ledger_core.specs.declared.entry.Call.TheVariants.{Unlock}
use Rattle.ledger_core.specs.declared.entry.Sender.{Sender}
use Rattle.ledger_core.specs.declared.entry.Sender.TheVariants.{Party, Clock}
use Rattle.ledger_core.specs.declared.entry.What.{What}
use Rattle.ledger_core.specs.declared.entry.What.TheVariants.{Call as Made, Tick as Ticks}
use Rattle.ledger_core.specs.declared.entry.Entry.{Entry}
use Rattle.ledger_core.specs.History.{is_sender, IsLegal}
use Rattle.ledger_core.specs.Book.{Histories, history, IsLegalBook}
use Rattle.swap_job.specs.declared.moves.Move.{Move}
use Rattle.swap_job.specs.declared.event.Event.{Event}
use Rattle.swap_job.specs.declared.event.Event.TheVariants.{Tick, Look, Act, Call as Calls, Crash}
use Rattle.swap_job.specs.Step.{CanStep, CanTick, CanCall}
use Rattle.swap_job.specs.Resolved.{resolved}
use Rattle.swap_run.specs.Script.{next_call, moves_left}
use Rattle.swap_run.specs.View.{IsPartyAnswer, MayAnswer}
use Rattle.swap_job.specs.declared.job.Role.{Role}
use Rattle.swap_job.specs.declared.job.Role.TheVariants.{Conforming, Manual, Script, Strategy}
use Rattle.swap_run.proofs.Scripts.{may_resolve, next_may, left_fit}
use Rattle.swap_rules.specs.Due.{Action, due}
use Rattle.ledger_core.proofs.History.{not-true}
use Rattle.swap_rules.proofs.Prefixes.{begins_refl, same_or_not}
use Rattle.swap_rules.proofs.Machines.{knowledge_conducts, rules_transfer}
use Rattle.swap_rules.proofs.Conducting.{Next, next_call as next_of_call, next_legal, next_grows, knows_all, history_same}
use Rattle.party_wallet.specs.Value.{signed_hashkey}
use Rattle.swap_run.specs.Run.{Cast, Notes, State, conforms, party_role, state_notes, party_plan, signed_through_call, after_tick, notes_with_ledger, look, make}
use Rattle.swap_run.specs.Run.{next_action}
use Rattle.swap_run.specs.Run.{is_recorded_after_crash, recorded_hashkeys, relearnt, crash}
use Rattle.swap_run.specs.Run.{act, watch, take_call, after_turn, follow, question, after_question, ask, answered_call, role_act}
use Rattle.swap_run.specs.Run.{step, no_histories, no_notes, first_plan, start, run}
use Rattle.ledger_core.specs.Ledger.{after_call}
use Rattle.swap_job.specs.Fitting.{is_near, IsPartyMove}
use Rattle.swap_run.specs.Laws.{IsReadyCast, AreGoodNotes, IsGoodPlan, IsGood, StartIsGood, StepsAreGood, GoodIsKept, RunsAreKept, UnlocksAreSigned}
use Rattle.swap_run.proofs.Entries.{next_tick}
use Rattle.swap_run.proofs.Noted.{Holds, hold_other, hold_look, hold_act, due_now}
use Rattle.swap_run.proofs.Crashes.{hold_restart, hold_recorded}
use Rattle.swap_run.proofs.Plans.{plan_grown, good_seen, good_turn, good_asked, plan_legal, answer_may}
use Rattle.swap_rules.proofs.Cases.{first_in}

-- Notes.

pub holds : (c : Cast) (s : State) (v : ℕ) → AreGoodNotes c s v → Holds c.deal s.book (state_notes s v) v
holds c s v g = record { one_each = g.one_each; places = g.places; knows = g.knows; far = g.far; sound = g.sound }

pub good_notes : (c : Cast) (s : State) (v : ℕ) (n : Notes) → state_notes s v ≡ n → Holds c.deal s.book n v → AreGoodNotes c s v
good_notes c s v n e h =
    let k = subst (λ m. Holds c.deal s.book m v) (sym e) h in
    record { one_each = k.one_each; places = k.places; knows = k.knows; far = k.far; sound = k.sound }

no_note : Notes
no_note = record { known = []; signed = [] }

pub note_same : (s : State) (b : Histories) (v : ℕ) (n : Notes) → v < length s.notes → state_notes (record s { book = b; notes = slice_set s.notes v n }) v ≡ n
note_same s b v n below = get_or-set_same s.notes v n (record { known = []; signed = [] }) below

pub note_other : (s : State) (b : Histories) (v u : ℕ) (n : Notes) → u ≢ v
    → state_notes (record s { book = b; notes = slice_set s.notes v n }) u ≡ state_notes s u
note_other s b v u n apart = get_or-set_other s.notes v u n (record { known = []; signed = [] }) apart

-- The steps.

pub in_book : (c : Cast) (s : State) (a : ℕ) → IsGood c s → a < length c.deal.graph.arcs → a < length s.book
in_book c s a g l = subst (λ m. a < m) (sym g.legal.one_each) l

-- an entry of nobody who conforms
pub good_other : (c : Cast) (s : State) (a : ℕ) (k : List Entry) (by : Sender) (w : What) → a < length c.deal.graph.arcs
    → Next c.deal a (history s.book a) k by w → ((v : ℕ) → conforms c v ≡ true → is_sender v by ≡ false) → IsGood c s
    → IsGood c (record s { book = set s.book a k })
good_other c s a k by w below n others g = record {
  legal = next_legal c.deal s.book a k by w (in_book c s a g below) n g.legal;
  one_each = g.one_each;
  notes =
      λ v l cv. good_notes c _ v (state_notes s v) refl (hold_other c.deal s.book (state_notes s v) v a k by w (in_book c s a g below) n (others v cv)
      (holds c s v (g.notes v l cv)));
  plan_each = g.plan_each;
  plans = λ v l. plan_grown c.deal c.seeds v s.book (set s.book a k) (party_plan s v) (next_grows c.deal s.book a k by w (in_book c s a g below) n)
      (g.plans v l);
}

pub good_tick : (c : Cast) (s : State) (a k : ℕ) → CanTick c.deal a k → IsGood c s → IsGood c (step c s (Tick a k))
good_tick c s a k can g =
    good_other c s a (after_tick k (history s.book a)) Clock (Ticks k) can.arc (next_tick c.deal a (history s.book a) k can.some can.few) (λ v cv.
    refl) g

-- a call of v, which doesn't conform
good_take : (c : Cast) (s : State) (v : ℕ) (o : Option (ℕ × Call)) → v < c.deal.graph.n → conforms c v ≡ false → MayAnswer c.deal v o → IsGood c s
    → IsGood c (take_call c s v o)
good_take c s v None lv out may g = g
good_take c s v (Some x) lv out may g =
    let is : IsPartyAnswer c.deal v x = may x refl in
    let n = next_of_call c.deal x.0 (history s.book x.0) v x.1 is.near is.fits in
    let g1 = good_other c s x.0 (after_call c.deal x.0 v x.1 (history s.book x.0)) (Party v) (Made x.1) is.arc n
    (λ u cu. not-true (v == u) (λ e. false≢true (sym out ∙ (ap (conforms c) (eqb-true v u e) ∙ cu)))) g in
    good_seen c (record s { book = set s.book x.0 (after_call c.deal x.0 v x.1 (history s.book x.0)) }) v x.0
    (after_call c.deal x.0 v x.1 (history s.book x.0)) lv is.arc is.near
    (history_same s.book x.0 (after_call c.deal x.0 v x.1 (history s.book x.0)) (in_book c s x.0 g is.arc)) g1

good_call : (c : Cast) (s : State) (p : ℕ) (mv : Move) → CanCall c.deal c.conforming c.seeds p mv → IsGood c s → IsGood c (step c s (Calls p mv))
good_call c s p mv can g =
    good_take c s p (resolved c.deal c.seeds s.book mv) can.known can.deviates
    (may_resolve c.deal c.seeds p s.book mv g.legal (record { fits = can.fits; adjacent = can.adjacent })) g

good_watch : (c : Cast) (s : State) (v a : ℕ) → v < c.deal.graph.n → a < length c.deal.graph.arcs → is_near c.deal v a ≡ true → IsGood c s
    → IsGood c (watch c s v a)
good_watch c s v a lv la near g = good_seen c s v a (history s.book a) lv la near refl g

-- what a script calls in a good state may be made
pub script_may : (c : Cast) (s : State) (v : ℕ) → v < c.deal.graph.n → IsGood c s
    → MayAnswer c.deal v (next_call c.deal c.seeds (party_plan s v).known (party_plan s v).moves)
script_may c s v lv g =
    let p = g.plans v lv in
    next_may c.deal c.seeds v (party_plan s v).known (party_plan s v).moves (plan_legal c.deal c.seeds v s.book (party_plan s v) g.legal p) p.moves

good_follow : (c : Cast) (s : State) (v : ℕ) → v < c.deal.graph.n → conforms c v ≡ false → IsGood c s → IsGood c (follow c s v)
good_follow c s v lv out g =
    let p = g.plans v lv in
    good_take c (after_turn s v (moves_left (party_plan s v).known (party_plan s v).moves)) v
    (next_call c.deal c.seeds (party_plan s v).known (party_plan s v).moves) lv out
    (script_may c s v lv g)
    (good_turn c s v (moves_left (party_plan s v).known (party_plan s v).moves) lv
    (left_fit (IsPartyMove c.deal c.seeds v) (party_plan s v).known (party_plan s v).moves p.moves) g)

good_ask : (c : Cast) (s : State) (v : ℕ) (name : List ℕ) → v < c.deal.graph.n → conforms c v ≡ false → IsGood c s → IsGood c (ask c s v name)
good_ask c s v name lv out g =
    good_take c (after_question s v name) v (answered_call c.deal v (c.answers (length s.asked))) lv out (answer_may c.deal v (c.answers (length s.asked)))
    (good_asked c (after_turn s v (party_plan s v).moves) (s.asked ++ question s v name ∷ [])
    (good_turn c s v (party_plan s v).moves lv (g.plans v lv).moves g))

-- an act of a party that doesn't conform
good_deviate : (c : Cast) (s : State) (v : ℕ) (role : Role) → v < c.deal.graph.n → conforms c v ≡ false → IsGood c s → IsGood c (role_act c s v role)
good_deviate c s v Conforming lv out g = g
good_deviate c s v Manual lv out g = g
good_deviate c s v (Script moves) lv out g = good_follow c s v lv out g
good_deviate c s v (Strategy name) lv out g = good_ask c s v name lv out g

pub good_look : (c : Cast) (s : State) (v a : ℕ) → v < c.deal.graph.n → a < length c.deal.graph.arcs → is_near c.deal v a ≡ true → IsGood c s
    → IsGood c (look s v a)
good_look c s v a lv below near g = record {
  legal = g.legal;
  one_each = length-set s.notes v (notes_with_ledger (state_notes s v) a (history s.book a)) ∙ g.one_each;
  notes = λ u l cu. go u l cu (same_or_not u v);
  plan_each = g.plan_each;
  plans = g.plans;
}
  where
    go : (u : ℕ) → u < c.deal.graph.n → conforms c u ≡ true → (u ≡ v) ⊎ (u ≢ v) → AreGoodNotes c (look s v a) u
    go u l cu (inl e) = subst (AreGoodNotes c (look s v a)) (sym e)
        (good_notes c (look s v a) v (notes_with_ledger (state_notes s v) a (history s.book a))
        (note_same s s.book v (notes_with_ledger (state_notes s v) a (history s.book a)) (subst (λ m. v < m) (sym g.one_each) lv))
        (hold_look c.deal s.book (state_notes s v) v a below near g.legal (holds c s v (g.notes v lv (ap (conforms c) (sym e) ∙ cu)))))
    go u l cu (inr n) =
        good_notes c (look s v a) u (state_notes s u) (note_other s s.book v u (notes_with_ledger (state_notes s v) a (history s.book a)) n)
        (holds c s u (g.notes u l cu))

-- a due call of v
pub good_make : (c : Cast) (s : State) (v : ℕ) (x : Action) → IsReadyCast c → v < c.deal.graph.n → conforms c v ≡ true
    → IsElement x (due c.deal v (c.wallet v) (signed_hashkey (state_notes s v).signed) (state_notes s v).known) → IsGood c s → IsGood c (make c.deal s v (Some x))
good_make c s v x ready lv cv i g =
    let hv = holds c s v (g.notes v lv cv) in
    let is = due_now c.deal s.book (state_notes s v) v (c.wallet v) x (ready.wallets v lv cv) ready.accepted i hv in
    let n = next_of_call c.deal x.arc (history s.book x.arc) v x.call is.of_the_two is.fits in
    let below = in_book c s x.arc g is.below in
    record {
      legal = next_legal c.deal s.book x.arc (after_call c.deal x.arc v x.call (history s.book x.arc)) (Party v) (Made x.call) below n g.legal;
      one_each = length-set s.notes v _ ∙ g.one_each;
      notes = λ u l cu. go u l cu below n (same_or_not u v);
      plan_each = g.plan_each;
      plans = λ u l. plan_grown c.deal c.seeds u s.book (set s.book x.arc (after_call c.deal x.arc v x.call (history s.book x.arc))) (party_plan s u)
          (next_grows c.deal s.book x.arc (after_call c.deal x.arc v x.call (history s.book x.arc)) (Party v) (Made x.call) below n) (g.plans u l);
    }
  where
    go : (u : ℕ) → u < c.deal.graph.n → conforms c u ≡ true → x.arc < length s.book
        → Next c.deal x.arc (history s.book x.arc) (after_call c.deal x.arc v x.call (history s.book x.arc)) (Party v) (Made x.call) → (u ≡ v) ⊎ (u ≢ v)
        → AreGoodNotes c (make c.deal s v (Some x)) u
    go u l cu below n (inl e) = subst (AreGoodNotes c (make c.deal s v (Some x))) (sym e)
        (good_notes c (make c.deal s v (Some x)) v (record {
          known =
              set (state_notes s v).known x.arc (after_call c.deal x.arc v x.call (history s.book x.arc));
          signed =
              signed_through_call (state_notes s v).signed x.call;
        })
        (note_same s (set s.book x.arc (after_call c.deal x.arc v x.call (history s.book x.arc))) v _ (subst (λ m. v < m) (sym g.one_each) lv))
        (hold_act c.deal s.book (state_notes s v) v (c.wallet v) x (ready.wallets v lv cv) ready.accepted g.legal i (holds c s v (g.notes v lv cv))))
    go u l cu below n (inr apart) =
        good_notes c (make c.deal s v (Some x)) u (state_notes s u)
        (note_other s (set s.book x.arc (after_call c.deal x.arc v x.call (history s.book x.arc))) v u _ apart)
        (hold_other c.deal s.book (state_notes s u) u x.arc (after_call c.deal x.arc v x.call (history s.book x.arc)) (Party v) (Made x.call) below n
        (not-true (v == u) (λ e. apart (sym (eqb-true v u e)))) (holds c s u (g.notes u l cu)))

pub good_act : (c : Cast) (s : State) (v : ℕ) → IsReadyCast c → v < c.deal.graph.n → conforms c v ≡ true → IsGood c s → IsGood c (act c s v)
good_act c s v ready lv cv g = go (next_action c s v) refl
  where
    go : (o : Option Action) → next_action c s v ≡ o → IsGood c (make c.deal s v o)
    go None e = g
    go (Some x) e = good_make c s v x ready lv cv (first_in (due c.deal v (c.wallet v) (signed_hashkey (state_notes s v).signed) (state_notes s v).known) x e) g

-- A crash leaves a run good.
module _ (c : Cast) (s : State) (v k image : ℕ) (ready : IsReadyCast c) (lv : v < c.deal.graph.n) (cv : conforms c v ≡ true) (g : IsGood c s) where
  hv : Holds c.deal s.book (state_notes s v) v
  hv = holds c s v (g.notes v lv cv)

  hold_crash : (o : Option Action) → next_action c s v ≡ o
      → Holds c.deal s.book (record { known = relearnt c.deal v s.book; signed = recorded_hashkeys (state_notes s v).signed o k image }) v
  hold_crash None e = hold_restart c.deal s.book (state_notes s v) v g.legal hv
  hold_crash (Some x) e = kept (is_recorded_after_crash k image)
    where
      kept : (y : Bool) → Holds c.deal s.book (record {
        known = relearnt c.deal v s.book;
        signed = if y then signed_through_call (state_notes s v).signed x.call else (state_notes s v).signed;
      }) v
      kept true =
          hold_recorded c.deal s.book (state_notes s v) v g.legal hv (c.wallet v) x (ready.wallets v lv cv) ready.accepted
          (first_in (due c.deal v (c.wallet v) (signed_hashkey (state_notes s v).signed) (state_notes s v).known) x e)
      kept false = hold_restart c.deal s.book (state_notes s v) v g.legal hv

  pub crash_is_good : IsGood c (crash c s v k image)
  crash_is_good = record {
    legal = g.legal;
    one_each = length-set s.notes v new ∙ g.one_each;
    notes = λ u l cu. go u l cu (same_or_not u v);
    plan_each = g.plan_each;
    plans = g.plans;
  }
    where
      new : Notes
      new = record { known = relearnt c.deal v s.book; signed = recorded_hashkeys (state_notes s v).signed (next_action c s v) k image }

      go : (u : ℕ) → u < c.deal.graph.n → conforms c u ≡ true → (u ≡ v) ⊎ (u ≢ v) → AreGoodNotes c (crash c s v k image) u
      go u l cu (inl e) =
          subst (AreGoodNotes c (crash c s v k image)) (sym e)
          (good_notes c (crash c s v k image) v new (note_same s s.book v new (subst (λ m. v < m) (sym g.one_each) lv)) (hold_crash (next_action c s v) refl))
      go u l cu (inr n) =
          good_notes c (crash c s v k image) u (state_notes s u) (note_other s s.book v u new n) (holds c s u (g.notes u l cu))

pub steps_are_good : StepsAreGood
steps_are_good c s (Tick a k) ready can g = good_tick c s a k can g
steps_are_good c s (Look v a) ready can g = go (conforms c v)
  where
    go : (x : Bool) → IsGood c (cond x (look s v a) (watch c s v a))
    go true = good_look c s v a can.known can.arc can.adjacent g
    go false = good_watch c s v a can.known can.arc can.adjacent g
steps_are_good c s (Act v) ready can g = go (conforms c v) refl
  where
    go : (x : Bool) → conforms c v ≡ x → IsGood c (cond x (act c s v) (role_act c s v (party_role c v)))
    go true e = good_act c s v ready can e g
    go false e = good_deviate c s v (party_role c v) can e g
steps_are_good c s (Calls p mv) ready can g = good_call c s p mv can g
steps_are_good c s (Crash v k image) ready can g = crash_is_good c s v k image ready can.known can.conforms g

-- The beginning.

pub replicated : {A : Type 0} (n i : ℕ) (x : A) → get_or (replicate n x) i x ≡ x
replicated n i x = go (nat_lt i n) refl
  where
    go : (y : Bool) → nat_lt i n ≡ y → get_or (replicate n x) i x ≡ x
    go true e = get_or-replicate n i x x (ltb-true i n e)
    go false e = get_or-eq_default (replicate n x) x (subst (λ m. m ≤ i) (sym (length-replicate n x)) (above i n e))
      where
        above : (i n : ℕ) → nat_lt i n ≡ false → n ≤ i
        above i n e = omega (arith, ltb-false i n e)

pub empty_at : (d : Deal) (a : ℕ) → history (no_histories d) a ≡ []
empty_at d a = replicated (length d.graph.arcs) a []

no_moment : (h past : List Entry) (e : Entry) → h ≡ [] → IsMoment h past e → ⊥
no_moment h [] e q m = let z : e ∷ m.0 ≡ [] = sym m.1 ∙ q in cc z
no_moment h (x ∷ past) e q m = let z : x ∷ (past ++ e ∷ m.0) ≡ [] = sym m.1 ∙ q in cc z

empty_legal : (d : Deal) → IsLegalBook d (no_histories d)
empty_legal d = record { one_each = length-replicate (length d.graph.arcs) []; legal = λ a l. subst (IsLegal d a) (sym (empty_at d a)) tt }

pub start_is_good : StartIsGood
start_is_good c ready = record {
  legal = empty_legal c.deal;
  one_each = length-replicate c.deal.graph.n (no_notes c.deal);
  plan_each = length-map c.roles (first_plan c.deal) ∙ ready.roles;
  plans = λ v l. subst (IsGoodPlan c.deal c.seeds v (no_histories c.deal))
      (sym (get_or-map (first_plan c.deal) c.roles v Manual (record { known = []; moves = []; turns = 0 }) (subst (λ n. v < n) (sym ready.roles) l)))
      (record {
        one_each = length-replicate (length c.deal.graph.arcs) [];
        begins = λ a. begins_refl (history (no_histories c.deal) a);
        far = λ a la far. empty_at c.deal a;
        moves = ready.scripts v l;
      });
  notes = λ v l cv. good_notes c (start c) v (no_notes c.deal) (get_or-replicate c.deal.graph.n v (no_notes c.deal) (record { known = []; signed = [] }) l)
      (record {
        one_each = length-replicate (length c.deal.graph.arcs) [];
        places = length-replicate (length c.deal.leaders) None;
        knows = λ a. knows_all v (history (no_histories c.deal) a);
        far = λ a la far. empty_at c.deal a;
        sound = record {
          legal = empty_legal c.deal;
          rules = record {
            own = λ a past e call m q. absurd (no_moment _ past e (empty_at c.deal a) m);
            keys = λ i key q. absurd (none i key q);
          };
        };
      });
}
  where
    none : (i : ℕ) (key : _) → signed_hashkey (no_notes c.deal).signed i ≡ Some key → ⊥
    none i key q = cc (sym (replicated (length c.deal.leaders) i None) ∙ q)

-- Runs.

pub good_is_kept : GoodIsKept
good_is_kept c s ready g = record {
  legal = g.legal;
  conducted = λ v l cv. let n =
      g.notes v l cv in knowledge_conducts c.deal (state_notes s v).known s.book (signed_hashkey (state_notes s v).signed) v g.legal n.knows n.sound.rules;
}

pub unlocks_are_signed : UnlocksAreSigned
unlocks_are_signed c s v a past e key g lv cv m q =
    let n = g.notes v lv cv in
    ((rules_transfer c.deal (state_notes s v).known s.book (signed_hashkey (state_notes s v).signed) v n.knows n.sound.rules).own a past e (Unlock key) m q).2

pub runs_are_good : (c : Cast) (events : List Event) (s : State) → IsReadyCast c → All (CanStep c.deal c.conforming c.seeds) events → IsGood c s
    → IsGood c (fold (step c) s events)
runs_are_good c [] s ready all g = g
runs_are_good c (e ∷ events) s ready all g =
    runs_are_good c events (step c s e) ready (λ k d l. all (suc k) d (omega arith)) (steps_are_good c s e ready (all 0 e (omega arith)) g)

pub runs_are_kept : RunsAreKept
runs_are_kept c events ready all = good_is_kept c (run c events) ready (runs_are_good c events (start c) ready all (start_is_good c ready))
