-- A round, put together from what was dealt, what each turn did and what was closed.
use Rattle.std.proofs.Common.{◌≡◌, ◌⊎◌, ℕ, ◌+◌, ◌<◌, ◌≤◌, Bool, true, false, List, [], ◌∷◌, ◌++◌, length, take, slice_get, slice_index_or, Option, Some, None}
use Rattle.std.proofs.Common.{refl, sym, ap, ◌∙◌, subst, inl, inr, arith}
use Rattle.std.proofs.lemmas.List.{length-map}
use Rattle.std.proofs.lemmas.List.FromFn.{length-map-range_with_len}
use Rattle.std.proofs.Math.ListN.{get_or-eq_default}
use Rattle.std.proofs.lemmas.Bool.{false≢true}
use mathlib.Core.List.{IsPrefix}
use Rattle.swap_base.specs.Lists.{IsElement}
use Rattle.swap_base.proofs.Lists.{bool_or, below_or, from_range}
use Rattle.atomic_table.specs.Seated.{TableId}
use Rattle.swap_digraph.specs.declared.deal.Deal.{Deal}
use Rattle.swap_digraph.specs.Deal.{touches}
use Rattle.escrow_core.specs.declared.reply.Reply.TheVariants.{Accepted}
use Rattle.ledger_core.specs.declared.entry.Entry.{Entry}
use Rattle.ledger_core.specs.History.{height, is_sender, IsLegal}
use Rattle.ledger_core.specs.Ledger.{tick_entry}
use Rattle.ledger_core.specs.Value.{LedgerState}
use Rattle.ledger_core.specs.Book.{Histories, history, IsLegalBook}
use Rattle.ledger_shared.specs.Value.{PassState, party_made, ticks_in_order, table_clock}
use Rattle.swap_job.specs.Roles.{job_role}
use Rattle.swap_job.specs.declared.job.Job.{Job}
use Rattle.swap_run.proofs.Answering.{leaves, enters}
use Rattle.party_wallet.specs.Value.{signed_hashkey}
use Rattle.party_machine.specs.Machine.{MachineState}
use Rattle.party_machine.specs.Wallet.{seed_wallet}
use Rattle.swap_rules.specs.Due.{due, first}
use Rattle.swap_rules.specs.Machine.{Begins, Knows, IsSound}
use Rattle.swap_rules.specs.Rounds.{IsNear}
use Rattle.swap_rules.proofs.Conducting.{knows_all}
use Rattle.swap_rules.proofs.Prefixes.{begins_refl, begins_more}
use Rattle.swap_rules.proofs.Growth.{Grows}
use Rattle.swap_run.specs.Run.{Notes, Plan, State, conforms, is_planned, state_notes, party_plan, next_action}
use Rattle.swap_job.specs.declared.job.Role.{Role}
use Rattle.party_threads.specs.Played.{sender_calls, arc_answer, IsPlanAnswer}
use Rattle.party_threads.specs.Views.{HasPlayedInRound}
use Rattle.swap_run.specs.Laws.{AreGoodNotes, IsGoodPlan, IsGood}
use Rattle.swap_run.proofs.Good.{good_notes}
use Rattle.swap_run.proofs.Plans.{plan_grown}
use Rattle.swap_world.specs.Cast.{job_cast}
use Rattle.swap_world.specs.Inside.{IsArcLedger}
use Rattle.swap_world.specs.Gone.{MayGive}
use Rattle.swap_world.specs.Acting.{IsSameOwner}
use Rattle.swap_world.specs.declared.player.Player.TheVariants.{Conforming, Planned, Manual}
use Rattle.party_threads.specs.declared.turn.Actor.{Actor}
use Rattle.party_threads.specs.declared.turn.Actor.TheVariants.{Party, Clock}
use Rattle.party_threads.specs.declared.turn.Turn.{Turn}
use Rattle.party_threads.specs.Later.{arc_pass}
use Rattle.party_threads.specs.Ticks.{HaveTicked, Ticked}
use Rattle.party_threads.specs.Took.{IsSameActor, Did, HasActed, HasPlanned}
use Rattle.party_threads.specs.Race.{IsRound}
use Rattle.party_threads.specs.Turns.{held_passes, held_clocks, turn_actor, held_pass, held_clock, arc_ledger, pass_start, IsHome, AreHome, HavePlaces, IsArcFree}
use Rattle.party_threads.specs.Turns.{AreDealt, IsClosed, IsShut, IsSameShape}
use Rattle.party_threads.specs.Standing.{home_history, turn_actor_notes, turn_notes, race_plan, turn_plan, race_state, IsPartyTurnActor, IsJobActor, KnowsOwn, StandsHome}
use Rattle.party_threads.proofs.Turning.{none_pass, HasTaken, HasDone, places_kept, places_taken}
use Rattle.party_threads.proofs.Sharing.{home_at, lock_at, held_near, held_far, clock_is, went_from}
use Rattle.party_threads.proofs.Seating.{notes_are, plans_are, history_is, wallet_is}
use Rattle.party_threads.proofs.Rounding.{calls_known, side_knows, begins_of, clock_side, far_from, far_knows}

closed_of : (d : Deal) (ts : List Turn) (a : ℕ) (o : Option LedgerState) → IsShut d ts a o → (l : LedgerState) × (o ≡ Some l) × IsClosed d ts a l
closed_of d ts a None k = absurd k
closed_of d ts a (Some l) k = (l, refl, k)

-- a conforming party acts by its machine
make_machine : (d : Deal) (seed : Option (List ℕ)) (role : Role) (v : ℕ) (x : Actor) (b : Bool) → b ≡ true → IsPartyTurnActor d b seed role v x
    → (m : MachineState) × (x ≡ Party (Conforming m tt))
make_machine d seed role v (Party (Conforming m u)) b e k = (m, refl)
make_machine d seed role v (Party (Planned n)) b e k = absurd (false≢true (sym k.0 ∙ e))
make_machine d seed role v (Party Manual) b e k = absurd (false≢true (sym k.0 ∙ e))
make_machine d seed role v Clock b e k = absurd k

-- a party that follows a script or a strategy acts by its plan
party_planner : (d : Deal) (seed : Option (List ℕ)) (role : Role) (v : ℕ) (x : Actor) (b : Bool) → b ≡ false → is_planned role ≡ true
    → IsPartyTurnActor d b seed role v x
    → (n : Plan) × (x ≡ Party (Planned n))
party_planner d seed role v (Party (Conforming m u)) b e p k = absurd (false≢true (sym e ∙ k.0))
party_planner d seed role v (Party (Planned n)) b e p k = (n, refl)
party_planner d seed role v (Party Manual) b e p k = absurd (false≢true (sym k.1 ∙ p))
party_planner d seed role v Clock b e p k = absurd k

-- a party that neither conforms nor plans doesn't act
manual_of : (d : Deal) (seed : Option (List ℕ)) (role : Role) (v : ℕ) (x : Actor) (b : Bool) → b ≡ false → is_planned role ≡ false → IsPartyTurnActor d b seed role v x
    → x ≡ Party Manual
manual_of d seed role v (Party (Conforming m u)) b e p k = absurd (false≢true (sym e ∙ k.0))
manual_of d seed role v (Party (Planned n)) b e p k = absurd (false≢true (sym p ∙ k.1))
manual_of d seed role v (Party Manual) b e p k = refl
manual_of d seed role v Clock b e p k = absurd k

same_machine : (m : MachineState) (y : Actor) → IsSameActor (Party (Conforming m tt)) y → (n : MachineState) × (y ≡ Party (Conforming n tt)) × IsSameOwner m n
same_machine m (Party (Conforming n u)) k = (n, refl, k)
same_machine m (Party (Planned n)) k = absurd k
same_machine m (Party Manual) k = absurd k
same_machine m Clock k = absurd k

same_planner : (n : Plan) (y : Actor) → IsSameActor (Party (Planned n)) y → (m : Plan) × (y ≡ Party (Planned m))
same_planner n (Party (Conforming m u)) k = absurd k
same_planner n (Party (Planned m)) k = (m, refl)
same_planner n (Party Manual) k = absurd k
same_planner n Clock k = absurd k

begins_knows : (v : ℕ) (k h : List Entry) → Knows v k h → Begins k h
begins_knows v k h x = (x.rest, x.whole)

near_touches : (d : Deal) (v a : ℕ) → IsNear d v a → (a < length d.graph.arcs) × (touches d v a ≡ true)
near_touches d v a (inl i) = leaves d v a i
near_touches d v a (inr i) = enters d v a i

module _ (gives : MayGive) (job : Job) (ticks : ℕ) (ls ls' : List (Option LedgerState)) (ts ts1 ts2 ts3 : List Turn) (locks : List TableId)
    (s : StandsHome job ls ts)
    (dealt : AreDealt job.deal ts1 locks ls) (many : length locks ≡ length job.deal.graph.arcs) (shape : IsSameShape ts ts1) (number : length ts2 ≡ length ts1)
    (taken : (v : ℕ) → v < length ts1 → HasTaken (slice_get ts1 v) (slice_get ts2 v)) (wide : length ls' ≡ length job.deal.graph.arcs)
    (closed : (a : ℕ) → a < length job.deal.graph.arcs → IsShut job.deal ts2 a (arc_ledger ls' a))
    (free : (a : ℕ) → a < length job.deal.graph.arcs → IsArcFree job.deal ts3 a) (after : IsSameShape ts2 ts3)
    (done : (v : ℕ) → v < length ts1 → HasDone gives job ticks v (slice_get ts1 v) (slice_get ts2 v)) where
  abbrev d : Deal
  d = job.deal

  abbrev old : State
  old = race_state job ls ts

  abbrev new : State
  new = race_state job ls' ts3

  places : HavePlaces d ts1
  places = places_kept d ts ts1 shape s.places

  below_all : (v : ℕ) → v < d.graph.n → v < length ts1
  below_all v l = let n = places.actors in omega (arith, n, l)

  clock_below : d.graph.n < length ts1
  clock_below = let n = places.actors in omega (arith, n)

  -- Ledgers.

  new_home : AreHome d ls'
  new_home = record {
    one_each = wide;
    each = λ a lt. let k = closed_of d ts2 a (arc_ledger ls' a) (closed a lt) in subst (IsHome d a) (sym k.1) k.2.home;
  }

  was : (a : ℕ) (l : LedgerState) → a < length d.graph.arcs → arc_ledger ls a ≡ Some l → history old.book a ≡ l.history
  was a l lt e = history_is ls a l e (subst (λ n. a < n) (sym s.home.one_each) lt)

  is_now : (a : ℕ) (l : LedgerState) → a < length d.graph.arcs → arc_ledger ls' a ≡ Some l → history new.book a ≡ l.history
  is_now a l lt e = history_is ls' a l e (subst (λ n. a < n) (sym wide) lt)

  one_each_now : length new.book ≡ length d.graph.arcs
  one_each_now = length-map ls' home_history ∙ wide

  none_now : (a : ℕ) → length d.graph.arcs ≤ a → history new.book a ≡ []
  none_now a ge = get_or-eq_default new.book [] (subst (λ n. n ≤ a) (sym one_each_now) ge)

  none_before : (a : ℕ) → length d.graph.arcs ≤ a → history old.book a ≡ []
  none_before a ge = get_or-eq_default old.book [] (subst (λ n. n ≤ a) (sym (length-map ls home_history ∙ s.home.one_each)) ge)

  -- The clock.

  clock_now : turn_actor ts1 d.graph.n ≡ Clock
  clock_now = shape.actors d.graph.n ∙ s.clock

  clock_did : HaveTicked ticks (held_clocks (slice_get ts1 d.graph.n)) (held_clocks (slice_get ts2 d.graph.n))
  clock_did =
      subst (λ x. Did gives job ticks d.graph.n (held_passes (slice_get ts1 d.graph.n)) (held_passes (slice_get ts2 d.graph.n))
      (held_clocks (slice_get ts1 d.graph.n))
      (held_clocks (slice_get ts2 d.graph.n)) x (turn_actor ts2 d.graph.n)) clock_now (done d.graph.n clock_below)

  ticked_at : (a : ℕ) (l l' : LedgerState) → a < length d.graph.arcs → arc_ledger ls a ≡ Some l → IsArcLedger d a l → arc_ledger ls' a ≡ Some l'
      → IsClosed d ts2 a l'
      → (ticks_in_order l'.history ≡ ticks_in_order l.history ++ tick_entry ticks (height l.history + ticks) Accepted ∷ []) × Begins l.history l'.history
  ticked_at a l l' lt at home at' k =
      let lock = lock_at d ts1 locks ls s.home dealt many a lt in
      let p = clock_is d ts1 locks ls s.home dealt many a lock.0 l lt lock.1 at in
      let t = subst (λ o. Ticked ticks o (held_clock ts2 d.graph.n a)) p (clock_did a) in
      clock_side d a ticks (table_clock lock.0 l) t.0 l.history l' home.legal refl t.2 (k.clock t.0 t.1)

  both : (a : ℕ) → a < length d.graph.arcs
      → (ticks_in_order (history new.book a) ≡ ticks_in_order (history old.book a) ++ tick_entry ticks (height (history old.book a) + ticks) Accepted ∷ [])
      × Begins (history old.book a) (history new.book a)
  both a lt =
      let l = home_at d ls a s.home lt in
      let k = closed_of d ts2 a (arc_ledger ls' a) (closed a lt) in
      let r = ticked_at a l.0 k.0 lt l.1 l.2 k.1 k.2 in
      subst (λ (w : List Entry × List Entry). (ticks_in_order w.1 ≡ ticks_in_order w.0 ++ tick_entry ticks (height w.0 + ticks) Accepted ∷ []) × Begins w.0 w.1)
      (λ i. (sym (was a l.0 lt l.1) i, sym (is_now a k.0 lt k.1) i)) r

  grows : Grows old.book new.book
  grows a = go (below_or a (length d.graph.arcs))
    where
      go : (a < length d.graph.arcs) ⊎ (length d.graph.arcs ≤ a) → Begins (history old.book a) (history new.book a)
      go (inl lt) = (both a lt).1
      go (inr ge) = subst (λ h. Begins (history old.book a) h) (none_before a ge ∙ sym (none_now a ge)) (begins_refl (history old.book a))

  legal_now : IsLegalBook d new.book
  legal_now = record {
    one_each = one_each_now;
    legal = λ a l.
        let lt : a < length d.graph.arcs = subst (λ n. a < n) one_each_now l in
        let k = closed_of d ts2 a (arc_ledger ls' a) (closed a lt) in
        subst (IsLegal d a) (sym (is_now a k.0 lt k.1)) k.2.home.legal;
  }

  -- Machines.

  record WentFrom (v : ℕ) (m n : MachineState) : Type 0 where
    before : turn_actor ts1 v ≡ Party (Conforming m tt)
    now : turn_actor ts3 v ≡ Party (Conforming n tt)
    deal : n.deal ≡ d
    me : n.me ≡ v
    seed : slice_index_or job.seeds v None ≡ Some n.seed
    known : length m.known ≡ length d.graph.arcs
    acted : HasActed m (held_passes (slice_get ts1 v)) n (held_passes (slice_get ts2 v))
    knew : (a : ℕ) → Knows v (history m.known a) (history old.book a)
    far : (a : ℕ) → a < length d.graph.arcs → touches d v a ≡ false → history m.known a ≡ []

  went : (v : ℕ) → v < d.graph.n → conforms (job_cast job) v ≡ true → (m : MachineState) × (n : MachineState) × WentFrom v m n
  went v lv cv =
      let first = s.actors v lv in
      let m = make_machine d (slice_index_or job.seeds v None) (job_role job v) v (turn_actor ts v) (slice_index_or job.conforming v false) cv first in
      let is : IsJobActor job v (Party (Conforming m.0 tt)) = subst (IsJobActor job v) m.1 first in
      let before : turn_actor ts1 v ≡ Party (Conforming m.0 tt) = shape.actors v ∙ m.1 in
      let n = same_machine m.0 (turn_actor ts2 v) (subst (λ x. IsSameActor x (turn_actor ts2 v)) before (taken v (below_all v lv)).actor) in
      let g : AreGoodNotes (job_cast job) old v = s.good.notes v lv cv in
      let note : state_notes old v ≡ record { known = m.0.known; signed = m.0.signed } = notes_are job ls ts v lv ∙ ap (turn_actor_notes d) m.1 in (
        m.0,
        n.0,
        record {
          before = before;
          now = after.actors v ∙ n.1;
          deal = n.2.deal ∙ is.1;
          me = n.2.me ∙ is.2;
          seed = is.3 ∙ ap (λ x. Some x) (sym n.2.seed);
          known = ap (λ (x : Notes). length x.known) (sym note) ∙ g.one_each;
          acted =
              subst (λ (w : Actor × Actor). Did gives job ticks v (held_passes (slice_get ts1 v)) (held_passes (slice_get ts2 v)) (held_clocks (slice_get ts1 v))
              (held_clocks (slice_get ts2 v)) w.0 w.1) (λ i. (before i, n.1 i)) (done v (below_all v lv));
          knew = λ a. subst (λ (x : Notes). Knows v (history x.known a) (history old.book a)) note (g.knows a);
          far = λ a lt far. ap (λ (x : Notes). history x.known a) (sym note) ∙ g.far a lt far;
        },
      )

  module _ (v : ℕ) (lv : v < d.graph.n) (m n : MachineState) (w : WentFrom v m n) where
    note_now : state_notes new v ≡ record { known = n.known; signed = n.signed }
    note_now = notes_are job ls' ts3 v lv ∙ ap (turn_actor_notes d) w.now

    known_now : length n.known ≡ length d.graph.arcs
    known_now = w.acted.able.arcs ∙ ap (λ x. length x.graph.arcs) w.deal

    -- next to v
    at_near : (a : ℕ) (l l' : LedgerState) → a < length d.graph.arcs → arc_ledger ls a ≡ Some l → IsArcLedger d a l → IsClosed d ts2 a l' → touches d v a ≡ true
        → Knows v (history n.known a) l'.history × Begins l.history (history n.known a)
    at_near a l l' lt at home k near =
        let lock = lock_at d ts1 locks ls s.home dealt many a lt in
        let p = held_near d ts1 locks ls s.home dealt many v a lock.0 l lv lt lock.1 at home near in
        let q = went_from d ts1 locks ls s.home dealt many ts2 places taken v a _ lv p in
        let wide_now : length (held_passes (slice_get ts2 v)) ≡ length d.graph.arcs = (taken v (below_all v lv)).places ∙ places.passes v lv in
        let below : a < length (held_passes (slice_get ts2 v)) = subst (λ z. a < z) (sym wide_now) lt in
        let seen : q.0.seen ≡ history n.known a = w.acted.seen a q.0 below q.1 in
        let who : q.0.party ≡ v = ap (λ (x : PassState). x.party) q.2.1 in
        let began : q.0.shared ≡ l.history = ap (λ (x : PassState). x.shared) q.2.1 in (
          side_knows v q.0 l' (history n.known a) who seen (k.passes v q.0 lv q.1),
          begins_of l.history (history n.known a)
              (subst (λ (x : List Entry × List Entry). IsPrefix x.0 x.1) (λ i. (began i, seen i)) (w.acted.whole a q.0 below q.1)),
        )

    -- elsewhere
    at_far : (a : ℕ) (l l' : LedgerState) → a < length d.graph.arcs → arc_ledger ls a ≡ Some l → arc_ledger ls' a ≡ Some l' → IsClosed d ts2 a l'
        → touches d v a ≡ false
        → Knows v (history n.known a) l'.history
    at_far a l l' lt at at' k far =
        let none : held_pass ts1 v a ≡ None = held_far d ts1 locks ls s.home dealt many v a lv lt far in
        let same : history n.known a ≡ history m.known a = w.acted.elsewhere a none in
        let grown : Begins l.history l'.history =
        (subst (λ (x : List Entry × List Entry). Begins x.0 x.1) (λ i. (was a l lt at i, is_now a l' lt at' i)) (grows a)) in
        far_knows d a v (history n.known a) l.history l'.history k.home.legal far grown
        (subst (λ (x : List Entry × List Entry). Knows v x.0 x.1) (λ i. (sym same i, was a l lt at i)) (w.knew a))

    knows_now : (a : ℕ) → Knows v (history n.known a) (history new.book a)
    knows_now a = go (below_or a (length d.graph.arcs))
      where
        there : (lt : a < length d.graph.arcs) (l l' : LedgerState) → arc_ledger ls a ≡ Some l → IsArcLedger d a l → arc_ledger ls' a ≡ Some l'
            → IsClosed d ts2 a l'
            → (touches d v a ≡ true) ⊎ (touches d v a ≡ false) → Knows v (history n.known a) (history new.book a)
        there lt l l' at home at' k (inl near) =
            subst (λ h. Knows v (history n.known a) h) (sym (is_now a l' lt at')) (at_near a l l' lt at home k near).0
        there lt l l' at home at' k (inr far) = subst (λ h. Knows v (history n.known a) h) (sym (is_now a l' lt at')) (at_far a l l' lt at at' k far)

        go : (a < length d.graph.arcs) ⊎ (length d.graph.arcs ≤ a) → Knows v (history n.known a) (history new.book a)
        go (inl lt) =
            let l = home_at d ls a s.home lt in
            let k = closed_of d ts2 a (arc_ledger ls' a) (closed a lt) in
            there lt l.0 k.0 l.1 l.2 k.1 k.2 (bool_or (touches d v a))
        go (inr ge) =
            let known : history n.known a ≡ [] = get_or-eq_default n.known [] (subst (λ z. z ≤ a) (sym known_now) ge) in
            subst (λ (x : List Entry × List Entry). Knows v x.0 x.1) (λ i. (sym known i, sym (none_now a ge) i)) (knows_all v [])

    good_now : AreGoodNotes (job_cast job) new v
    good_now =
        good_notes (job_cast job) new v (record { known = n.known; signed = n.signed }) note_now (record {
          one_each = known_now;
          places = w.acted.able.signs ∙ ap (λ x. length x.leaders) w.deal;
          knows = knows_now;
          far = λ a lt far. w.acted.elsewhere a (held_far d ts1 locks ls s.home dealt many v a lv lt far) ∙ w.far a lt far;
          sound =
              subst (λ u. IsSound d n.known (signed_hashkey n.signed) u) w.me
              (subst (λ x. IsSound x n.known (signed_hashkey n.signed) n.me) w.deal w.acted.able.sound);
        })

    rests_now : next_action (job_cast job) new v ≡ None
    rests_now =
        ap (λ (x : Notes). first (due d v ((job_cast job).wallet v) (signed_hashkey x.signed) x.known)) note_now
        ∙ (ap (λ k. first (due d v k (signed_hashkey n.signed) n.known)) (wallet_is job v n w.seed)
        ∙ (λ i. first (due (sym w.deal i) (sym w.me i) (seed_wallet n.seed (sym w.me i) (sym w.deal i)) (signed_hashkey n.signed) n.known)) ∙ w.acted.rests)

    seen_now : (a : ℕ) → IsNear d v a → Begins (history old.book a) (history (state_notes new v).known a)
    seen_now a near =
        let t = near_touches d v a near in
        let l = home_at d ls a s.home t.0 in
        let k = closed_of d ts2 a (arc_ledger ls' a) (closed a t.0) in
        subst (λ (x : List Entry × Notes). Begins x.0 (history x.1.known a)) (λ i. (sym (was a l.0 t.0 l.1) i, sym note_now i))
        (at_near a l.0 k.0 t.0 l.1 l.2 k.2 t.1).1

  -- Scripts and strategies.

  record PlannedFrom (v : ℕ) (n m : Plan) : Type 0 where
    before : turn_actor ts1 v ≡ Party (Planned n)
    now : turn_actor ts3 v ≡ Party (Planned m)
    was : party_plan old v ≡ n
    is : party_plan new v ≡ m
    acted : HasPlanned gives job v n (held_passes (slice_get ts1 v)) m (held_passes (slice_get ts2 v))
    knew : (a : ℕ) → Knows v (history n.known a) (history old.book a)

  planned : (v : ℕ) (n : Plan) → v < d.graph.n → turn_actor ts v ≡ Party (Planned n) → (m : Plan) × PlannedFrom v n m
  planned v n lv first =
      let before : turn_actor ts1 v ≡ Party (Planned n) = shape.actors v ∙ first in
      let m = same_planner n (turn_actor ts2 v) (subst (λ x. IsSameActor x (turn_actor ts2 v)) before (taken v (below_all v lv)).actor) in (
        m.0,
        record {
          before = before;
          now = after.actors v ∙ m.1;
          was = plans_are job ls ts v lv ∙ ap (race_plan d) first;
          is = plans_are job ls' ts3 v lv ∙ ap (race_plan d) (after.actors v ∙ m.1);
          acted =
              subst (λ (w : Actor × Actor). Did gives job ticks v (held_passes (slice_get ts1 v)) (held_passes (slice_get ts2 v)) (held_clocks (slice_get ts1 v))
              (held_clocks (slice_get ts2 v)) w.0 w.1) (λ i. (before i, m.1 i)) (done v (below_all v lv));
          knew = subst (λ x. KnowsOwn v x old.book) first (s.own v lv);
        },
      )

  module _ (v : ℕ) (lv : v < d.graph.n) (n m : Plan) (w : PlannedFrom v n m) where
    abbrev view : Histories
    view = w.acted.played.view

    -- next to v
    plan_near : (a : ℕ) (l l' : LedgerState) → a < length d.graph.arcs → arc_ledger ls a ≡ Some l → IsArcLedger d a l → IsClosed d ts2 a l'
        → touches d v a ≡ true
        → Knows v (history m.known a) l'.history × Begins l.history (history view a)
    plan_near a l l' lt at home k near =
        let lock = lock_at d ts1 locks ls s.home dealt many a lt in
        let p = held_near d ts1 locks ls s.home dealt many v a lock.0 l lv lt lock.1 at home near in
        let q = went_from d ts1 locks ls s.home dealt many ts2 places taken v a _ lv p in
        let below_then : a < length (held_passes (slice_get ts1 v)) = subst (λ z. a < z) (sym (places.passes v lv)) lt in
        let wide_now : length (held_passes (slice_get ts2 v)) ≡ length d.graph.arcs = (taken v (below_all v lv)).places ∙ places.passes v lv in
        let below : a < length (held_passes (slice_get ts2 v)) = subst (λ z. a < z) (sym wide_now) lt in
        let seen : q.0.seen ≡ history m.known a = w.acted.seen a q.0 below q.1 in
        let who : q.0.party ≡ v = ap (λ (x : PassState). x.party) q.2.1 in (
          side_knows v q.0 l' (history m.known a) who seen (k.passes v q.0 lv q.1),
          begins_of l.history (history view a) (w.acted.played.whole a _ below_then p),
        )

    plan_far : (a : ℕ) → a < length d.graph.arcs → touches d v a ≡ false → history m.known a ≡ []
    plan_far a lt far = w.acted.shown.view.far a lt far

    plan_arcs : length m.known ≡ length d.graph.arcs
    plan_arcs = w.acted.shown.view.legal.one_each

    -- nothing is known of an arc on which v makes no call
    knows_none : (a : ℕ) (h : List Entry) → history m.known a ≡ [] → ((e : Entry) → IsElement e h → is_sender v e.sender ≡ false) → Knows v (history m.known a) h
    knows_none a h none others = record { rest = h; whole = sym (ap (λ k. k ++ h) none); others = others }

    plan_knows : (a : ℕ) → Knows v (history m.known a) (history new.book a)
    plan_knows a = go (below_or a (length d.graph.arcs))
      where
        there : (lt : a < length d.graph.arcs) (l l' : LedgerState) → arc_ledger ls a ≡ Some l → IsArcLedger d a l → arc_ledger ls' a ≡ Some l'
            → IsClosed d ts2 a l'
            → (touches d v a ≡ true) ⊎ (touches d v a ≡ false) → Knows v (history m.known a) (history new.book a)
        there lt l l' at home at' k (inl near) =
            subst (λ h. Knows v (history m.known a) h) (sym (is_now a l' lt at')) (plan_near a l l' lt at home k near).0
        there lt l l' at home at' k (inr far) =
            subst (λ h. Knows v (history m.known a) h) (sym (is_now a l' lt at'))
            (knows_none a l'.history (plan_far a lt far) (far_from d a v l'.history k.home.legal far))

        go : (a < length d.graph.arcs) ⊎ (length d.graph.arcs ≤ a) → Knows v (history m.known a) (history new.book a)
        go (inl lt) =
            let l = home_at d ls a s.home lt in
            let k = closed_of d ts2 a (arc_ledger ls' a) (closed a lt) in
            there lt l.0 k.0 l.1 l.2 k.1 k.2 (bool_or (touches d v a))
        go (inr ge) =
            let none : history m.known a ≡ [] = get_or-eq_default m.known [] (subst (λ z. z ≤ a) (sym plan_arcs) ge) in
            subst (λ (x : List Entry × List Entry). Knows v x.0 x.1) (λ i. (sym none i, sym (none_now a ge) i)) (knows_all v [])

    plan_good_now : IsGoodPlan d job.seeds v new.book m
    plan_good_now = record {
      one_each = plan_arcs;
      begins = λ a. begins_knows v (history m.known a) (history new.book a) (plan_knows a);
      far = λ a lt far. plan_far a lt far;
      moves = w.acted.shown.moves;
    }

    -- the party knew all of its own calls that stood
    plan_own : (a : ℕ) → sender_calls v (history n.known a) ≡ sender_calls v (history old.book a)
    plan_own a = sym (calls_known v (history n.known a) (history old.book a) (w.knew a))

    plan_played : HasPlayedInRound gives (job_cast job) old new v
    plan_played = record {
      view = view;
      answer = w.acted.played.answer;
      shown = w.acted.played.shown;
      seen = λ a lt near.
          let l = home_at d ls a s.home lt in
          let k = closed_of d ts2 a (arc_ledger ls' a) (closed a lt) in
          subst (λ h. Begins h (history view a)) (sym (was a l.0 lt l.1)) (plan_near a l.0 k.0 lt l.1 l.2 k.2 near).1;
      begins = λ a.
          begins_more (history view a) (history m.known a) (history new.book a) (w.acted.played.begins a)
          (begins_knows v (history m.known a) (history new.book a) (plan_knows a));
      own = λ a lt. w.acted.played.own a ∙ plan_own a;
      called = λ a lt.
          calls_known v (history m.known a) (history new.book a) (plan_knows a) ∙ (w.acted.played.called a lt
          ∙ ap (λ cs. take 32 (cs ++ arc_answer a w.acted.played.answer)) (plan_own a));
      answered =
          subst (λ (x : Plan × Plan). IsPlanAnswer gives d job.seeds v view w.acted.played.answer x.0 x.1 (job_role job v)) (λ i. (sym w.was i, sym w.is i))
          w.acted.played.answered;
      may = w.acted.played.may;
      turns = ap (λ (x : Plan). x.turns) w.is ∙ (w.acted.played.turns ∙ ap (λ (x : Plan). x.turns + 1) (sym w.was));
    }

  -- The others.

  abbrev manual_at : (v : ℕ) → v < d.graph.n → conforms (job_cast job) v ≡ false → is_planned (job_role job v) ≡ false → turn_actor ts v ≡ Party Manual
  manual_at v lv cv p =
      manual_of d (slice_index_or job.seeds v None) (job_role job v) v (turn_actor ts v) (slice_index_or job.conforming v false) cv p (s.actors v lv)

  module _ (v : ℕ) (lv : v < d.graph.n) (first : turn_actor ts v ≡ Party Manual) where
    idle : held_passes (slice_get ts2 v) ≡ held_passes (slice_get ts1 v)
    idle =
        subst (λ x. Did gives job ticks v (held_passes (slice_get ts1 v)) (held_passes (slice_get ts2 v)) (held_clocks (slice_get ts1 v))
        (held_clocks (slice_get ts2 v)) x
        (turn_actor ts2 v)) (shape.actors v ∙ first) (done v (below_all v lv))

    started_whole : (x : Actor) (a : ℕ) (h : List Entry) → x ≡ Party Manual → pass_start x a h ≡ h
    started_whole x a h e = ap (λ y. pass_start y a h) e

    made_none : (a : ℕ) (h : List Entry) → IsLegal d a h → touches d v a ≡ false → party_made v h ≡ []
    made_none a h legal far = none_pass (λ (e : Entry). is_sender v e.sender) h (far_from d a v h legal far)

    unmade_at : (a : ℕ) (l l' : LedgerState) → a < length d.graph.arcs → arc_ledger ls a ≡ Some l → IsArcLedger d a l → IsClosed d ts2 a l'
        → (touches d v a ≡ true) ⊎ (touches d v a ≡ false) → party_made v l'.history ≡ party_made v l.history
    unmade_at a l l' lt at home k (inl near) =
        let lock = lock_at d ts1 locks ls s.home dealt many a lt in
        let p = held_near d ts1 locks ls s.home dealt many v a lock.0 l lv lt lock.1 at home near in
        let p2 = ap (λ ps. arc_pass ps a) idle ∙ p in
        (k.passes v _ lv p2).mine ∙ ap (party_made v) (started_whole (turn_actor ts1 v) l.arc l.history (shape.actors v ∙ first))
    unmade_at a l l' lt at home k (inr far) = made_none a l'.history k.home.legal far ∙ sym (made_none a l.history home.legal far)

    unmade : (a : ℕ) → party_made v (history new.book a) ≡ party_made v (history old.book a)
    unmade a = go (below_or a (length d.graph.arcs))
      where
        go : (a < length d.graph.arcs) ⊎ (length d.graph.arcs ≤ a) → party_made v (history new.book a) ≡ party_made v (history old.book a)
        go (inl lt) =
            let l = home_at d ls a s.home lt in
            let k = closed_of d ts2 a (arc_ledger ls' a) (closed a lt) in
            ap (party_made v) (is_now a k.0 lt k.1) ∙ (unmade_at a l.0 k.0 lt l.1 l.2 k.2 (bool_or (touches d v a))
            ∙ ap (party_made v) (sym (was a l.0 lt l.1)))
        go (inr ge) = ap (party_made v) (none_now a ge ∙ sym (none_before a ge))

    stays : turn_actor ts3 v ≡ Party Manual
    stays = after.actors v ∙ subst (λ x. IsSameActor x (turn_actor ts2 v)) (shape.actors v ∙ first) (taken v (below_all v lv)).actor

  -- The round.

  -- who plans nothing plans nothing later
  plan_kept : (v : ℕ) → v < d.graph.n → race_plan d (turn_actor ts v) ≡ race_plan d (turn_actor ts3 v) → IsGoodPlan d job.seeds v new.book (party_plan new v)
  plan_kept v lv same =
      subst (IsGoodPlan d job.seeds v new.book) (plans_are job ls ts v lv ∙ (same ∙ sym (plans_are job ls' ts3 v lv)))
      (plan_grown d job.seeds v old.book new.book (party_plan old v) grows (s.good.plans v lv))

  -- What each party is after the round.
  record Stays (v : ℕ) : Type 0 where
    actor : IsJobActor job v (turn_actor ts3 v)
    plan : IsGoodPlan d job.seeds v new.book (party_plan new v)
    own : KnowsOwn v (turn_actor ts3 v) new.book

  stays_in : (v : ℕ) → v < d.graph.n → Stays v
  stays_in v lv = go (turn_actor ts v) refl (s.actors v lv)
    where
      go : (x : Actor) → turn_actor ts v ≡ x → IsJobActor job v x → Stays v
      go (Party (Conforming m u)) e k =
          let w = went v lv k.0 in
          record {
            actor = subst (IsJobActor job v) (sym w.2.now) (k.0, w.2.deal, w.2.me, w.2.seed);
            plan = plan_kept v lv (ap (race_plan d) e ∙ sym (ap (race_plan d) w.2.now));
            own = subst (λ x. KnowsOwn v x new.book) (sym w.2.now) tt;
          }
      go (Party (Planned n)) e k =
          let w = planned v n lv e in
          record {
            actor = subst (IsJobActor job v) (sym w.1.now) k;
            plan = subst (IsGoodPlan d job.seeds v new.book) (sym w.1.is) (plan_good_now v lv n w.0 w.1);
            own = subst (λ x. KnowsOwn v x new.book) (sym w.1.now) (plan_knows v lv n w.0 w.1);
          }
      go (Party Manual) e k =
          let now = stays v lv e in
          record {
            actor = subst (IsJobActor job v) (sym now) k;
            plan = plan_kept v lv (ap (race_plan d) e ∙ sym (ap (race_plan d) now));
            own = subst (λ x. KnowsOwn v x new.book) (sym now) tt;
          }
      go Clock e k = absurd k

  pub good : IsGood (job_cast job) new
  good = record {
    legal = legal_now;
    one_each = length-map-range_with_len (turn_notes d ts3) 0 d.graph.n;
    notes = λ v lv cv. let w = went v lv cv in good_now v lv w.0 w.1 w.2;
    plan_each = length-map-range_with_len (turn_plan d ts3) 0 d.graph.n;
    plans = λ v lv. (stays_in v lv).plan;
  }

  played_now : (v : ℕ) → v < d.graph.n → conforms (job_cast job) v ≡ false → is_planned (job_role job v) ≡ true → HasPlayedInRound gives (job_cast job) old new v
  played_now v lv cv p =
      let n =
      party_planner d (slice_index_or job.seeds v None) (job_role job v) v (turn_actor ts v) (slice_index_or job.conforming v false) cv p (s.actors v lv) in
      let w = planned v n.0 lv n.1 in
      plan_played v lv n.0 w.0 w.1

  pub round : IsRound gives (job_cast job) ticks old new
  round = record {
    good = good;
    grows = grows;
    ticked = λ a i. (both a (from_range a (length d.graph.arcs) i)).0;
    seen = λ v a lv cv near. let w = went v lv cv in seen_now v lv w.0 w.1 w.2 a near;
    rests = λ v lv cv. let w = went v lv cv in rests_now v lv w.0 w.1 w.2;
    others = λ v a lv cv p. unmade v lv (manual_at v lv cv p) a;
    played = λ v lv cv p. played_now v lv cv p;
  }

  pub stands : StandsHome job ls' ts3
  stands = record {
    cast = s.cast;
    home = new_home;
    places = places_kept d ts2 ts3 after (places_taken d ts1 ts2 number taken places);
    free = free;
    actors = λ v lv. (stays_in v lv).actor;
    clock =
        after.actors d.graph.n ∙ subst (λ x. IsSameActor x (turn_actor ts2 d.graph.n)) clock_now (taken d.graph.n clock_below).actor;
    good = good;
    own = λ v lv. (stays_in v lv).own;
  }
