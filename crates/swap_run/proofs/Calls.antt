-- What an event of a run does is what it does before its call, the call, and what the call's party
-- then knows.
use Rattle.std.proofs.Common.{◌≡◌, ◌≢◌, ◌⊎◌, ℕ, ◌<◌, Bool, true, false, cond, List, [], ◌∷◌, ◌++◌, length, Option, Some, None, is_some}
use Rattle.std.proofs.Common.{refl, sym, ap, ◌∙◌, subst, inl, inr, set, slice_set, is_none, map, zero-add}
use Rattle.std.proofs.lemmas.Option.{same_Some}
use Rattle.std.specs.List.{range_with_len}
use Rattle.std.proofs.lemmas.List.{length-set, set-get_or, ext_get_or}
use Rattle.std.proofs.lemmas.List.FromFn.{get_or-map-range_with_len, length-map-range_with_len}
use Rattle.swap_base.specs.Lists.{IsElement}
use Rattle.hashkey_path.specs.declared.hashkey.Hashkey.{Hashkey}
use Rattle.party_wallet.specs.Value.{signed_hashkey}
use Rattle.ledger_core.specs.declared.entry.Call.{Call}
use Rattle.ledger_core.specs.declared.entry.Call.TheVariants.{Publish, Unlock, Claim, Refund, Transfer}
use Rattle.ledger_core.specs.declared.entry.Entry.{Entry}
use Rattle.ledger_core.specs.History.{Publication, published}
use Rattle.ledger_core.specs.Ledger.{after_call}
use Rattle.ledger_core.specs.Book.{Histories, history}
use Rattle.swap_job.specs.declared.event.Event.TheVariants.{Tick, Look, Act, Call as Calls, Crash}
use Rattle.swap_job.specs.declared.job.Role.{Role}
use Rattle.swap_job.specs.declared.job.Role.TheVariants.{Conforming, Manual, Script, Strategy}
use Rattle.swap_job.specs.Resolved.{resolved}
use Rattle.swap_run.specs.Script.{next_call, moves_left}
use Rattle.swap_run.specs.View.{IsPartyAnswer, MayAnswer}
use Rattle.swap_run.proofs.Scripts.{may_resolve, left_fit}
use Rattle.swap_job.specs.Fitting.{IsPartyMove}
use Rattle.swap_rules.specs.Due.{Action, due}
use Rattle.swap_rules.specs.Machine.{IsSound, Begins}
use Rattle.swap_rules.proofs.Due.{IsDue}
use Rattle.swap_rules.proofs.Growth.{is_published-more}
use Rattle.swap_rules.proofs.Prefixes.{same_or_not}
use Rattle.swap_run.specs.Run.{Cast, Notes, State, conforms, party_role, state_notes, party_plan, signed_through_call, look, make, next_action, act, watch, take_call}
use Rattle.swap_run.specs.Run.{plans_seen, after_turn, question, after_question, answered_call, role_act}
use Rattle.swap_run.specs.Laws.{IsReadyCast, AreGoodNotes, IsGood}
use Rattle.swap_run.proofs.Noted.{hold_look, due_now, signed_length}
use Rattle.swap_run.proofs.Plans.{good_seen, good_turn, good_asked, answer_may}
use Rattle.swap_run.proofs.Good.{holds, good_notes, note_same, note_other, script_may}
use Rattle.swap_run.specs.Called.{Called, sender_call, by_due, role_call, role_turn, noted_state, planned_state, is_barred}
use Rattle.swap_run.specs.CalledLaws.{CallsSplit, CallsArePlaced, PassedIsGood}
use Rattle.swap_rules.proofs.Cases.{first_in}

-- The parts of an event.

-- what a call leaves
abbrev pub left_by : Cast → State → Called → List Entry
left_by c s x = after_call c.deal x.arc x.sender x.call (history s.book x.arc)

taken : (c : Cast) (s : State) (v : ℕ) (o : Option (ℕ × Call)) (x : Called) → sender_call v o ≡ Some x → take_call c s v o ≡ planned_state c s x (left_by c s x)
taken c s v None x e = absurd (cc e)
taken c s v (Some y) x e =
    subst (λ z. take_call c s v (Some y) ≡ planned_state c s z (left_by c s z)) (same_Some (record { sender = v; arc = y.0; call = y.1 }) x e) refl

taken_none : (c : Cast) (s : State) (v : ℕ) (o : Option (ℕ × Call)) → sender_call v o ≡ None → take_call c s v o ≡ s
taken_none c s v None e = refl
taken_none c s v (Some y) e = absurd (cc e)

made : (c : Cast) (s : State) (v : ℕ) (o : Option Action) (x : Called) → by_due v o ≡ Some x → make c.deal s v o ≡ noted_state s x (left_by c s x)
made c s v None x e = absurd (cc e)
made c s v (Some y) x e =
    subst (λ z. make c.deal s v (Some y) ≡ noted_state s z (left_by c s z)) (same_Some (record { sender = v; arc = y.arc; call = y.call }) x e) refl

made_none : (c : Cast) (s : State) (v : ℕ) (o : Option Action) → by_due v o ≡ None → make c.deal s v o ≡ s
made_none c s v None e = refl
made_none c s v (Some y) e = absurd (cc e)

acted : (c : Cast) (s : State) (v : ℕ) (role : Role) (x : Called) → role_call c s v role ≡ Some x
    → role_act c s v role ≡ planned_state c (role_turn c s v role) x (left_by c s x)
acted c s v Conforming x e = absurd (cc e)
acted c s v Manual x e = absurd (cc e)
acted c s v (Script moves) x e =
    taken c (after_turn s v (moves_left (party_plan s v).known (party_plan s v).moves)) v
    (next_call c.deal c.seeds (party_plan s v).known (party_plan s v).moves) x e
acted c s v (Strategy name) x e = taken c (after_question s v name) v (answered_call c.deal v (c.answers (length s.asked))) x e

acted_none : (c : Cast) (s : State) (v : ℕ) (role : Role) → role_call c s v role ≡ None → role_act c s v role ≡ role_turn c s v role
acted_none c s v Conforming e = refl
acted_none c s v Manual e = refl
acted_none c s v (Script moves) e =
    taken_none c (after_turn s v (moves_left (party_plan s v).known (party_plan s v).moves)) v
    (next_call c.deal c.seeds (party_plan s v).known (party_plan s v).moves) e
acted_none c s v (Strategy name) e = taken_none c (after_question s v name) v (answered_call c.deal v (c.answers (length s.asked))) e

turned_calm : (c : Cast) (s : State) (v : ℕ) (role : Role) → (role_turn c s v role).book ≡ s.book
turned_calm c s v Conforming = refl
turned_calm c s v Manual = refl
turned_calm c s v (Script moves) = refl
turned_calm c s v (Strategy name) = refl

pub calls_split : CallsSplit
calls_split c s (Tick a k) e = absurd (cc e)
calls_split c s (Look v a) e = record {
  alone = λ q. refl;
  calls = λ x q. absurd (cc q);
  calm = calm (conforms c v);
}
  where
    calm : (b : Bool) → (cond b (look s v a) (watch c s v a)).book ≡ s.book
    calm true = refl
    calm false = refl
calls_split c s (Calls v mv) e = record {
  alone = λ q. taken_none c s v (resolved c.deal c.seeds s.book mv) q;
  calls = λ x q. taken c s v (resolved c.deal c.seeds s.book mv) x q;
  calm = refl;
}
calls_split c s (Crash v k image) e = record { alone = λ q. refl; calls = λ x q. absurd (cc q); calm = refl }
calls_split c s (Act v) e = record { alone = alone (conforms c v); calls = λ x. calls x (conforms c v); calm = calm (conforms c v) }
  where
    role : Role
    role = party_role c v

    alone : (b : Bool) → cond b (by_due v (next_action c s v)) (role_call c s v (party_role c v)) ≡ None
        → cond b (act c s v) (role_act c s v (party_role c v)) ≡ cond b s (role_turn c s v (party_role c v))
    alone true q = made_none c s v (next_action c s v) q
    alone false q = acted_none c s v (party_role c v) q

    calls : (x : Called) (b : Bool) → cond b (by_due v (next_action c s v)) (role_call c s v (party_role c v)) ≡ Some x
        → cond b (act c s v) (role_act c s v (party_role c v))
        ≡ cond b (noted_state (cond b s (role_turn c s v (party_role c v))) x (left_by c s x))
        (planned_state c (cond b s (role_turn c s v (party_role c v))) x (left_by c s x))
    calls x true q = made c s v (next_action c s v) x q
    calls x false q = acted c s v (party_role c v) x q

    calm : (b : Bool) → (cond b s (role_turn c s v (party_role c v))).book ≡ s.book
    calm true = refl
    calm false = turned_calm c s v (party_role c v)

-- What is called.

-- what v may call, of an option
answered : (d : _) (v : ℕ) (o : Option (ℕ × Call)) (x : Called) → MayAnswer d v o → sender_call v o ≡ Some x → (x.sender ≡ v) × IsPartyAnswer d v (x.arc, x.call)
answered d v None x may e = absurd (cc e)
answered d v (Some y) x may e =
    subst (λ z. (z.sender ≡ v) × IsPartyAnswer d v (z.arc, z.call)) (same_Some (record { sender = v; arc = y.0; call = y.1 }) x e) (refl, may y refl)

-- what an act of v, which doesn't conform, leaves before its call, and its call
record TurnedAs (c : Cast) (s : State) (v : ℕ) (x : Called) (t : State) : Type 0 where
  good : IsGood c t
  calm : t.book ≡ s.book
  sender : x.sender ≡ v
  answer : IsPartyAnswer c.deal v (x.arc, x.call)

turned_as_is : (c : Cast) (s : State) (v : ℕ) (role : Role) (x : Called) → v < c.deal.graph.n → IsGood c s → role_call c s v role ≡ Some x
    → TurnedAs c s v x (role_turn c s v role)
turned_as_is c s v Conforming x lv g e = absurd (cc e)
turned_as_is c s v Manual x lv g e = absurd (cc e)
turned_as_is c s v (Script moves) x lv g e =
    let k = answered c.deal v (next_call c.deal c.seeds (party_plan s v).known (party_plan s v).moves) x (script_may c s v lv g) e in
    record {
      good =
          good_turn c s v (moves_left (party_plan s v).known (party_plan s v).moves) lv
          (left_fit (IsPartyMove c.deal c.seeds v) (party_plan s v).known (party_plan s v).moves (g.plans v lv).moves) g;
      calm = refl;
      sender = k.0;
      answer = k.1;
    }
turned_as_is c s v (Strategy name) x lv g e =
    let k = answered c.deal v (answered_call c.deal v (c.answers (length s.asked))) x (answer_may c.deal v (c.answers (length s.asked))) e in
    record {
      good =
          good_asked c (after_turn s v (party_plan s v).moves) (s.asked ++ question s v name ∷ [])
          (good_turn c s v (party_plan s v).moves lv (g.plans v lv).moves g);
      calm = refl;
      sender = k.0;
      answer = k.1;
    }

-- the due call of v is the first that is due
due_in : (c : Cast) (s : State) (v : ℕ) (o : Option Action) (x : Called) → next_action c s v ≡ o → by_due v o ≡ Some x
    → (x.sender ≡ v) × IsElement (record { arc = x.arc; call = x.call }) (due c.deal v (c.wallet v) (signed_hashkey (state_notes s v).signed) (state_notes s v).known)
due_in c s v None x q e = absurd (cc e)
due_in c s v (Some y) x q e =
    subst (λ z. (z.sender ≡ v) × IsElement (record { arc = z.arc; call = z.call })
    (due c.deal v (c.wallet v) (signed_hashkey (state_notes s v).signed) (state_notes s v).known))
    (same_Some (record { sender = v; arc = y.arc; call = y.call }) x e)
    (refl, first_in (due c.deal v (c.wallet v) (signed_hashkey (state_notes s v).signed) (state_notes s v).known) y q)

pub calls_are_placed : CallsArePlaced
calls_are_placed c s (Tick a k) x ready can g e = absurd (cc e)
calls_are_placed c s (Look v a) x ready can g e = absurd (cc e)
calls_are_placed c s (Crash v k image) x ready can g e = absurd (cc e)
calls_are_placed c s (Calls v mv) x ready can g e =
    (answered c.deal v (resolved c.deal c.seeds s.book mv) x
    (may_resolve c.deal c.seeds v s.book mv g.legal (record { fits = can.fits; adjacent = can.adjacent })) e).1.arc
calls_are_placed c s (Act v) x ready can g e = go (conforms c v) refl e
  where
    go : (b : Bool) → conforms c v ≡ b → cond b (by_due v (next_action c s v)) (role_call c s v (party_role c v)) ≡ Some x → x.arc < length c.deal.graph.arcs
    go true cv q =
        let i = due_in c s v (next_action c s v) x refl q in
        (due_now c.deal s.book (state_notes s v) v (c.wallet v) (record { arc = x.arc; call = x.call }) (ready.wallets v can cv) ready.accepted i.1
        (holds c s v (g.notes v can cv))).below
    go false out q = (turned_as_is c s v (party_role c v) x can g q).answer.arc

-- A call that leaves no entry.

-- the ledger of an arc comes to where it is
still : (b : Histories) (a : ℕ) → slice_set b a (history b a) ≡ b
still b a = set-get_or b a []

-- of a party that plans
passed_plan : (c : Cast) (s : State) (v : ℕ) (x : Called) → v < c.deal.graph.n → x.sender ≡ v → IsPartyAnswer c.deal v (x.arc, x.call) → IsGood c s
    → IsGood c (planned_state c s x (history s.book x.arc))
passed_plan c s v x lv e is g =
    subst (λ b. IsGood c (record s { book = b; plans = plans_seen c s x.sender x.arc (history s.book x.arc) })) (sym (still s.book x.arc))
    (subst (λ u. IsGood c (record s { plans = plans_seen c s u x.arc (history s.book x.arc) })) (sym e)
    (good_seen c s v x.arc (history s.book x.arc) lv is.arc is.near refl g))

-- what was signed, place by place
same_signed : (signed : List (Option Hashkey)) → signed_hashkey (map (signed_hashkey signed) (range_with_len 0 (length signed))) ≡ signed_hashkey signed
same_signed signed =
    ap signed_hashkey (ext_get_or None (map (signed_hashkey signed) (range_with_len 0 (length signed))) signed
    (length-map-range_with_len (signed_hashkey signed) 0 (length signed)) (λ i l.
    get_or-map-range_with_len (signed_hashkey signed) 0 (length signed) i i None
    (subst (λ n. i < n) (length-map-range_with_len (signed_hashkey signed) 0 (length signed)) l) (zero-add i)))

-- what is due on a slot whose calls don't reach it is a publish, a claim or a refund, and signs
-- nothing
signs_nothing : (c : Cast) (s : State) (v : ℕ) (a : ℕ) (call : Call) (n : Notes)
    → IsDue c.deal v (c.wallet v) (signed_hashkey n.signed) n.known n.known a call → Begins (history n.known a) (history s.book a)
    → is_barred true (history s.book a) call ≡ true → signed_hashkey (signed_through_call n.signed call) ≡ signed_hashkey n.signed
signs_nothing c s v a (Publish t) n is b bar = same_signed n.signed
signs_nothing c s v a Claim n is b bar = same_signed n.signed
signs_nothing c s v a Refund n is b bar = same_signed n.signed
signs_nothing c s v a (Transfer to units) n is b bar = absurd is.rule
signs_nothing c s v a (Unlock key) n is b bar =
    absurd (none (published (history s.book a)) (is_published-more (history n.known a) (history s.book a) b is.rule.0) bar)
  where
    none : (o : Option Publication) → is_some o ≡ true → is_none o ≡ true → ⊥
    none None p q = cc p
    none (Some y) p q = cc q

-- of a party that conforms
passed_notes : (c : Cast) (s : State) (v : ℕ) (x : Called) → IsReadyCast c → v < c.deal.graph.n → conforms c v ≡ true → x.sender ≡ v
    → IsElement (record { arc = x.arc; call = x.call }) (due c.deal v (c.wallet v) (signed_hashkey (state_notes s v).signed) (state_notes s v).known)
    → is_barred true (history s.book x.arc) x.call ≡ true → IsGood c s → IsGood c (noted_state s x (history s.book x.arc))
passed_notes c s v x ready lv cv e i bar g =
    subst (λ b. IsGood c (record s { book = b; notes = slice_set s.notes x.sender (after x.sender) })) (sym (still s.book x.arc))
    (subst (λ u. IsGood c (record s { notes = slice_set s.notes u (after u) })) (sym e) (record {
      legal = g.legal;
      one_each = length-set s.notes v (after v) ∙ g.one_each;
      notes = λ u l cu. go u l cu (same_or_not u v);
      plan_each = g.plan_each;
      plans = g.plans;
    }))
  where
    after : ℕ → Notes
    after u = record { known = slice_set (state_notes s u).known x.arc (history s.book x.arc); signed = signed_through_call (state_notes s u).signed x.call }

    now : State
    now = record s { notes = slice_set s.notes v (after v) }

    go : (u : ℕ) → u < c.deal.graph.n → conforms c u ≡ true → (u ≡ v) ⊎ (u ≢ v) → AreGoodNotes c (record s { notes = slice_set s.notes v (after v) }) u
    go u l cu (inl q) = subst (AreGoodNotes c (record s { notes = slice_set s.notes v (after v) })) (sym q)
        (let hv = holds c s v (g.notes v lv cv) in
        let is =
        due_now c.deal s.book (state_notes s v) v (c.wallet v) (record { arc = x.arc; call = x.call }) (ready.wallets v lv cv) ready.accepted i hv in
        let k = hold_look c.deal s.book (state_notes s v) v x.arc is.below is.of_the_two g.legal hv in
        let same =
        signs_nothing c s v x.arc x.call (state_notes s v) is ((hv.knows x.arc).rest, (hv.knows x.arc).whole) bar in
        good_notes c (record s { notes = slice_set s.notes v (after v) }) v (after v)
        (note_same s s.book v (after v) (subst (λ m. v < m) (sym g.one_each) lv)) (record {
          one_each = k.one_each;
          places = signed_length (state_notes s v).signed x.call ∙ hv.places;
          knows = k.knows;
          far = k.far;
          sound = subst (λ f. IsSound c.deal (set (state_notes s v).known x.arc (history s.book x.arc)) f v) (sym same) k.sound;
        }))
    go u l cu (inr n) =
        good_notes c (record s { notes = slice_set s.notes v (after v) }) u (state_notes s u) (note_other s s.book v u (after v) n)
        (holds c s u (g.notes u l cu))

pub passed_is_good : PassedIsGood
passed_is_good c s (Tick a k) x ready can g e bar = absurd (cc e)
passed_is_good c s (Look v a) x ready can g e bar = absurd (cc e)
passed_is_good c s (Crash v k image) x ready can g e bar = absurd (cc e)
passed_is_good c s (Calls v mv) x ready can g e bar =
    let k = answered c.deal v (resolved c.deal c.seeds s.book mv) x
    (may_resolve c.deal c.seeds v s.book mv g.legal (record { fits = can.fits; adjacent = can.adjacent })) e in
    passed_plan c s v x can.known k.0 k.1 g
passed_is_good c s (Act v) x ready can g e bar = go (conforms c v) refl e
  where
    go : (b : Bool) → conforms c v ≡ b → cond b (by_due v (next_action c s v)) (role_call c s v (party_role c v)) ≡ Some x
        → IsGood c (cond b (noted_state (cond b s (role_turn c s v (party_role c v))) x (history s.book x.arc))
        (planned_state c (cond b s (role_turn c s v (party_role c v))) x (history s.book x.arc)))
    go true cv q = let i = due_in c s v (next_action c s v) x refl q in passed_notes c s v x ready can cv i.0 i.1 bar g
    go false out q =
        let k = turned_as_is c s v (party_role c v) x can g q in
        subst (λ b. IsGood c (planned_state c (role_turn c s v (party_role c v)) x (history b x.arc))) k.calm
        (passed_plan c (role_turn c s v (party_role c v)) v x can k.sender k.answer k.good)
