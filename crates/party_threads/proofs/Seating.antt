-- Every actor has its passes as the turns begin.
use Rattle.std.proofs.Common.{zero-add, ◌≡◌, ◌≢◌, ◌⊎◌, ℕ, ◌+◌, ◌<◌, ◌≤◌, Bool, true, false, List, [], length, map, slice_get, get_or, slice_index_or, Option}
use Rattle.std.proofs.Common.{Some, None, refl, sym, ap, ◌∙◌, subst, inl, inr, arith, option_map}
use Rattle.std.proofs.lemmas.Option.{none-some, same_Some, slice_get-map, slice_get-get_or}
use Rattle.std.proofs.lemmas.List.{length-map, get_or-map}
use Rattle.std.proofs.lemmas.List.FromFn.{get_or-map-range_with_len}
use Rattle.swap_base.proofs.Lists.{bool_or}
use Rattle.swap_rules.proofs.Prefixes.{same_or_not}
use Rattle.atomic_table.specs.Seated.{TableId}
use Rattle.swap_digraph.specs.declared.deal.Deal.{Deal}
use Rattle.swap_digraph.specs.declared.deal.Version.{Version}
use Rattle.swap_digraph.specs.declared.deal.Version.TheVariants.{One, Two}
use Rattle.swap_digraph.specs.Deal.{touches, most_parties}
use Rattle.ledger_core.specs.declared.entry.Entry.{Entry}
use Rattle.ledger_core.specs.History.{height}
use Rattle.ledger_core.specs.Value.{LedgerState}
use Rattle.ledger_core.specs.Book.{history}
use Rattle.ledger_core.proofs.Bounds.{countable}
use Rattle.ledger_shared.specs.Value.{PassState, ClockState, SharedState, party_pass, table_clock, ticks_in_order}
use Rattle.swap_job.specs.declared.job.Job.{Job}
use Rattle.party_wallet.specs.Value.{signed_hashkey}
use Rattle.party_machine.specs.Machine.{MachineState}
use Rattle.party_machine.specs.Wallet.{seed_wallet}
use Rattle.swap_rules.specs.Machine.{IsWallet, IsSound, Knows}
use Rattle.swap_rules.proofs.Conducting.{knows_all}
use Rattle.swap_run.specs.Run.{Notes, Plan, state_notes, party_plan}
use Rattle.swap_run.specs.Laws.{AreGoodNotes, IsGoodPlan}
use Rattle.swap_run.proofs.Plans.{plan_view}
use Rattle.swap_rules.proofs.Accepted.{accepted_is_well_sized}
use Rattle.swap_run.specs.Shown.{IsShown}
use Rattle.swap_world.specs.Cast.{job_cast, signing_wallet}
use Rattle.swap_world.specs.Inside.{IsArcLedger}
use Rattle.swap_world.specs.Actors.{AreHeld}
use Rattle.swap_world.specs.declared.player.Player.TheVariants.{Conforming, Planned, Manual}
use Rattle.party_threads.specs.declared.turn.Actor.{Actor}
use Rattle.party_threads.specs.declared.turn.Actor.TheVariants.{Party, Clock}
use Rattle.party_threads.specs.declared.turn.Turn.{Turn}
use Rattle.party_threads.specs.Tracks.{Watcher, IsWatcherPass, IsWatching}
use Rattle.party_threads.specs.Able.{watcher, IsAble}
use Rattle.party_threads.specs.Ticks.{HasRoomForTicks, AreLedgerClocks}
use Rattle.party_threads.specs.Played.{party_planner}
use Rattle.party_threads.specs.Took.{IsMachineSeated, IsPlannerSeated, IsActorSeated, IsSeated}
use Rattle.party_threads.specs.Turns.{numbered_actor, held_passes, held_clocks, turn_actor, held_pass, arc_ledger, pass_start, HasArc, IsBehind, AreBehind, HavePlaces}
use Rattle.party_threads.specs.Turns.{AreDealt, IsSameShape}
use Rattle.party_threads.specs.Standing.{home_history, race_book, turn_actor_notes, turn_notes, race_plan, turn_plan, race_state, IsJobActor, KnowsOwn, StandsHome}
use Rattle.party_threads.specs.Standing.{HasTickRoom, AllHaveRoom}
use Rattle.party_threads.proofs.Clocks.{height_of_ticks}
use Rattle.party_threads.proofs.Sharing.{home_at, lock_at, held_near, held_far, clock_is}

-- What a machine is, by its party.

-- the machine with its deal and its party as they are called
abbrev named : Deal → ℕ → MachineState → MachineState
named d v m = record { deal = d; me = v; seed = m.seed; known = m.known; signed = m.signed }

pub is_named : (d : Deal) (v : ℕ) (m : MachineState) → m.deal ≡ d → m.me ≡ v → named d v m ≡ m
is_named d v m ed ev = λ i. record { deal = sym ed i; me = sym ev i; seed = m.seed; known = m.known; signed = m.signed }

-- the wallet of the cast is the machine's
pub wallet_is : (job : Job) (v : ℕ) (m : MachineState) → slice_index_or job.seeds v None ≡ Some m.seed → (job_cast job).wallet v ≡ seed_wallet m.seed v job.deal
wallet_is job v m e = ap (λ o. signing_wallet o v job.deal) e

-- the notes of the state are the machine's
pub notes_are : (job : Job) (ls : List (Option LedgerState)) (ts : List Turn) (v : ℕ) → v < job.deal.graph.n
    → state_notes (race_state job ls ts) v ≡ turn_actor_notes job.deal (turn_actor ts v)
notes_are job ls ts v l = get_or-map-range_with_len (turn_notes job.deal ts) 0 job.deal.graph.n v v _ l (zero-add v)

-- the plan of the state is the actor's
pub plans_are : (job : Job) (ls : List (Option LedgerState)) (ts : List Turn) (v : ℕ) → v < job.deal.graph.n
    → party_plan (race_state job ls ts) v ≡ race_plan job.deal (turn_actor ts v)
plans_are job ls ts v l = get_or-map-range_with_len (turn_plan job.deal ts) 0 job.deal.graph.n v v _ l (zero-add v)

-- the history of the state is the ledger's
pub history_is : (ls : List (Option LedgerState)) (a : ℕ) (l : LedgerState) → arc_ledger ls a ≡ Some l → a < length ls → history (race_book ls) a ≡ l.history
history_is ls a l e lt = get_or-map home_history ls a None [] lt ∙ ap home_history e

few_parties : (v : Version) → most_parties v ≤ 32
few_parties One = omega arith
few_parties Two = omega arith

module _ (job : Job) (ls : List (Option LedgerState)) (ts : List Turn) (s : StandsHome job ls ts) where
  abbrev d : Deal
  d = job.deal

  -- what stands of a machine
  pub able_at : (v : ℕ) (m : MachineState) → v < d.graph.n → turn_actor ts v ≡ Party (Conforming m tt) → IsAble m
  able_at v m lv e =
      let is : IsJobActor job v (Party (Conforming m tt)) = subst (IsJobActor job v) e (s.actors v lv) in
      let n : AreGoodNotes (job_cast job) (race_state job ls ts) v = s.good.notes v lv is.0 in
      let note : state_notes (race_state job ls ts) v ≡ record { known = m.known; signed = m.signed } = notes_are job ls ts v lv ∙ ap (turn_actor_notes d) e in
      subst IsAble (is_named d v m is.1 is.2) (record {
        accepted = s.cast.accepted;
        wallet = subst (IsWallet d v) (wallet_is job v m is.3) (s.cast.wallets v lv is.0);
        party = lv;
        arcs = ap (λ (x : Notes). length x.known) (sym note) ∙ n.one_each;
        signs = ap (λ (x : Notes). length x.signed) (sym note) ∙ n.places;
        sound = subst (λ (x : Notes). IsSound d x.known (signed_hashkey x.signed) v) note n.sound;
      })

  -- what stands of a plan
  pub plan_good : (v : ℕ) (n : Plan) → v < d.graph.n → turn_actor ts v ≡ Party (Planned n) → IsGoodPlan d job.seeds v (race_book ls) n
  plan_good v n lv e = subst (IsGoodPlan d job.seeds v (race_book ls)) (plans_are job ls ts v lv ∙ ap (race_plan d) e) (s.good.plans v lv)

  pub plan_shown : (v : ℕ) (n : Plan) → v < d.graph.n → turn_actor ts v ≡ Party (Planned n) → IsShown d job.seeds v n
  plan_shown v n lv e =
      let g = plan_good v n lv e in
      record { view = plan_view d job.seeds v (race_book ls) n (accepted_is_well_sized d s.cast.accepted) lv s.good.legal g; moves = g.moves }

  -- how many turns there are
  pub few_turns : (us : List Turn) → IsSameShape ts us → length us ≤ 256
  few_turns us shape =
      let n : length us ≡ d.graph.n + 1 = shape.number ∙ s.places.actors in
      let low = (accepted_is_well_sized d s.cast.accepted).parties.1 in
      let most = few_parties d.version in
      omega (arith, n, low, most)

  -- each actor knows the job's arcs
  pub has_arc : (v a : ℕ) → v < d.graph.n → a < length d.graph.arcs → HasArc (turn_actor ts v) a
  has_arc v a lv lt = go (turn_actor ts v) refl (s.actors v lv)
    where
      go : (x : Actor) → turn_actor ts v ≡ x → IsJobActor job v x → HasArc x a
      go (Party (Conforming m u)) e k = subst (λ x. a < length x.graph.arcs) (sym k.1) lt
      go (Party (Planned n)) e k =
          let below : a < length n.known = subst (λ z. a < z) (sym (plan_good v n lv e).one_each) lt in
          (below, (countable d a (history n.known a) ((plan_shown v n lv e).view.legal.legal a below)).count)
      go (Party Manual) e k = tt
      go Clock e k = tt

  -- each actor is behind the histories of its arcs
  pub behind : AreBehind d ts ls
  behind v a l lv lt at = go (turn_actor ts v) refl (s.actors v lv)
    where
      now : history (race_book ls) a ≡ l.history
      now = history_is ls a l at (subst (λ n. a < n) (sym s.home.one_each) lt)

      go : (x : Actor) → turn_actor ts v ≡ x → IsJobActor job v x → IsBehind x v a l.history
      go (Party (Conforming m u)) e k =
          let note : state_notes (race_state job ls ts) v ≡ record { known = m.known; signed = m.signed } = notes_are job ls ts v lv ∙ ap (turn_actor_notes d) e in
          subst (λ (w : Notes × List Entry). Knows v (history w.0.known a) w.1) (λ i. (note i, now i)) ((s.good.notes v lv k.0).knows a)
      go (Party (Planned n)) e k = subst (λ h. Knows v (history n.known a) h) now (subst (λ x. KnowsOwn v x (race_book ls)) e (s.own v lv) a)
      go (Party Manual) e k = knows_all v l.history
      go Clock e k = knows_all v l.history

-- Each pass is as it was dealt.
module _ (job : Job) (ls : List (Option LedgerState)) (first ts : List Turn) (shared : List SharedState) (s : StandsHome job ls first)
    (places : HavePlaces job.deal ts)
    (dealt : AreDealt job.deal ts (map (λ (x : SharedState). x.lock) shared) ls) (many : length shared ≡ length job.deal.graph.arcs)
    (actors : (v : ℕ) → turn_actor ts v ≡ turn_actor first v) where
  abbrev e : Deal
  e = job.deal

  abbrev locks : List TableId
  locks = map (λ (x : SharedState). x.lock) shared

  all_locks : length locks ≡ length e.graph.arcs
  all_locks = length-map shared (λ (x : SharedState). x.lock) ∙ many

  -- the lock of the ledger at a place
  lock_of : (a : ℕ) (x : SharedState) → a < length e.graph.arcs → x ≡ get_or shared a x → slice_get locks a ≡ Some x.lock
  lock_of a x lt is =
      let there : slice_get shared a ≡ Some x = slice_get-get_or shared a x (subst (λ n. a < n) (sym many) lt) ∙ ap (λ y. Some y) (sym is) in
      slice_get-map (λ (y : SharedState). y.lock) shared a ∙ ap (λ o. option_map (λ (y : SharedState). y.lock) o) there

  -- a pass that was dealt is that of its actor, which knows so much
  dealt_pass : (w : Watcher) (a : ℕ) (seen : List Entry) (l : LedgerState) (x : SharedState) (p : PassState) → w.deal ≡ e → IsArcLedger e a l
      → seen ≡ history w.known a → party_pass x.lock l w.me seen ≡ p → IsWatcherPass w x.lock a p
  dealt_pass w a seen l x p ed k known is = subst (IsWatcherPass w x.lock a) is (record {
    lock = refl;
    deal = k.deal ∙ sym ed;
    arc = k.arc;
    party = refl;
    seen = known;
  })

  -- the pass that is there is the one that was dealt
  there_is : (v a : ℕ) (x : SharedState) (p : PassState) → v < e.graph.n → a < length e.graph.arcs → x ≡ get_or shared a x → held_pass ts v a ≡ Some p
      → (l : LedgerState) × IsArcLedger e a l × (party_pass x.lock l v (pass_start (turn_actor ts v) l.arc l.history) ≡ p)
  there_is v a x p lv lt ix held =
      let l = home_at e ls a s.home lt in
      go l.0 l.1 l.2 (bool_or (touches e v a))
    where
      go : (l : LedgerState) → arc_ledger ls a ≡ Some l → IsArcLedger e a l → (touches e v a ≡ true) ⊎ (touches e v a ≡ false)
          → (l : LedgerState) × IsArcLedger e a l × (party_pass x.lock l v (pass_start (turn_actor ts v) l.arc l.history) ≡ p)
      go l at k (inl near) = (
        l,
        k,
        same_Some _ _
            (sym (held_near e ts locks ls s.home dealt all_locks v a x.lock l lv lt (lock_of a x lt ix) at k near) ∙ held),
      )
      go l at k (inr far) = absurd (none-some _ (sym (held_far e ts locks ls s.home dealt all_locks v a lv lt far) ∙ held))

  -- next to v there is a pass
  near_is : (v a : ℕ) → v < e.graph.n → a < length e.graph.arcs → touches e v a ≡ true → (p : PassState) × (held_pass ts v a ≡ Some p)
  near_is v a lv lt near =
      let l = home_at e ls a s.home lt in
      let k = lock_at e ts locks ls s.home dealt all_locks a lt in (
        party_pass k.0 l.0 v (pass_start (turn_actor ts v) l.0.arc l.0.history),
        held_near e ts locks ls s.home dealt all_locks v a k.0 l.0 lv lt k.1 l.1 l.2 near,
      )

  -- elsewhere there is no pass
  far_is : (v a : ℕ) → v < e.graph.n → a < length e.graph.arcs → touches e v a ≡ false → held_pass ts v a ≡ None
  far_is v a lv lt far = held_far e ts locks ls s.home dealt all_locks v a lv lt far

  pass_is : (w : Watcher) (v a : ℕ) (x : SharedState) (p : PassState) → v < e.graph.n → w.deal ≡ e → w.me ≡ v
      → ((b : ℕ) (h : List Entry) → pass_start (turn_actor ts v) b h ≡ history w.known b) → a < length e.graph.arcs → x ≡ get_or shared a x
      → held_pass ts v a ≡ Some p → IsWatcherPass w x.lock a p
  pass_is w v a x p lv ed ev known lt ix held =
      let t = there_is v a x p lv lt ix held in
      dealt_pass w a (pass_start (turn_actor ts v) t.0.arc t.0.history) t.0 x p ed t.1 (known t.0.arc t.0.history ∙ ap (λ b. history w.known b) t.1.arc)
      (ap (λ u. party_pass x.lock t.0 u (pass_start (turn_actor ts v) t.0.arc t.0.history)) ev ∙ t.2)

  watching_at : (w : Watcher) (v : ℕ) → v < e.graph.n → w.deal ≡ e → w.me ≡ v → ((b : ℕ) (h : List Entry) → pass_start (turn_actor ts v) b h ≡ history w.known b)
      → length w.known ≡ length w.deal.graph.arcs → IsWatching shared w (held_passes (slice_get ts v))
  watching_at w v lv ed ev known wide =
      let arcs : length w.deal.graph.arcs ≡ length e.graph.arcs = ap (λ (d : Deal). length d.graph.arcs) ed in
      let within : length (held_passes (slice_get ts v)) ≡ length e.graph.arcs = places.passes v lv in
      record {
        known = wide;
        tracks = record {
          places = within ∙ sym arcs;
          shared = many ∙ sym arcs;
          each = λ a x p lt ix held. pass_is w v a x p lv ed ev known (subst (λ n. a < n) within lt) ix held;
        };
        passes = record {
          near = λ a lt near.
              near_is v a lv (subst (λ n. a < n) within lt) (subst (λ u. touches e u a ≡ true) ev (subst (λ d. touches d w.me a ≡ true) ed near));
          far = λ a lt far.
              far_is v a lv (subst (λ n. a < n) within lt) (subst (λ u. touches e u a ≡ false) ev (subst (λ d. touches d w.me a ≡ false) ed far));
        };
      }

  seated_machine : (v : ℕ) (m : MachineState) → v < e.graph.n → turn_actor ts v ≡ Party (Conforming m tt) → IsMachineSeated shared m (held_passes (slice_get ts v))
  seated_machine v m lv is =
      let who : IsJobActor job v (Party (Conforming m tt)) = subst (IsJobActor job v) (sym (actors v) ∙ is) (s.actors v lv) in
      let able = able_at job ls first s v m lv (sym (actors v) ∙ is) in
      record { able = able; watching = watching_at (watcher m) v lv who.1 who.2 (λ b h. ap (λ y. pass_start y b h) is) able.arcs }

  module _ (holds : List ℕ → Bool) (held : AreHeld holds job.roles) where
    seated_planner : (v : ℕ) (n : Plan) → v < e.graph.n → turn_actor ts v ≡ Party (Planned n) → IsPlannerSeated holds job shared v n (held_passes (slice_get ts v))
    seated_planner v n lv is =
        let before : turn_actor first v ≡ Party (Planned n) = sym (actors v) ∙ is in
        let place : v < length job.roles = subst (λ k. v < k) (sym s.cast.roles) lv in
        let shown = plan_shown job ls first s v n lv before in
        record {
          place = place;
          shown = shown;
          held = held v place;
          watching = watching_at (party_planner e v n) v lv refl refl (λ b h. ap (λ y. pass_start y b h) is) shown.view.legal.one_each;
        }

    module _ (ticks : ℕ) (room : AllHaveRoom ticks job.deal (race_book ls)) where
      clock_room : (a : ℕ) (lock : TableId) (l : LedgerState) (p : ClockState) → a < length e.graph.arcs → arc_ledger ls a ≡ Some l → IsArcLedger e a l
          → table_clock lock l ≡ p
          → HasRoomForTicks ticks p
      clock_room a lock l p lt at k is =
          let h : history (race_book ls) a ≡ l.history = history_is ls a l at (subst (λ n. a < n) (sym s.home.one_each) lt) in
          let r : HasTickRoom ticks l.history = subst (HasTickRoom ticks) h (room a lt) in
          let level : height l.history ≡ height (ticks_in_order l.history) = height_of_ticks e a l.history k.legal in
          subst (HasRoomForTicks ticks) is (record { few = r.few; low = subst (λ n. n + ticks ≤ 1000000) level r.low })

      seated_clock : AreLedgerClocks ticks shared (held_clocks (slice_get ts e.graph.n))
      seated_clock =
          let wide : length (held_clocks (slice_get ts e.graph.n)) ≡ length e.graph.arcs = places.clocks in
          record {
            places = wide ∙ sym many;
            lock = λ a x p lt ix held.
                let below : a < length e.graph.arcs = subst (λ n. a < n) wide lt in
                let l = home_at e ls a s.home below in
                sym (ap (λ (y : ClockState). y.lock) (same_Some _ _
                (sym (clock_is e ts locks ls s.home dealt all_locks a x.lock l.0 below (lock_of a x below ix) l.1) ∙ held)));
            room = λ a p lt held.
                let below : a < length e.graph.arcs = subst (λ n. a < n) wide lt in
                let l = home_at e ls a s.home below in
                let k = lock_at e ts locks ls s.home dealt all_locks a below in
                clock_room a k.0 l.0 p below l.1 l.2 (same_Some _ _ (sym (clock_is e ts locks ls s.home dealt all_locks a k.0 l.0 below k.1 l.1) ∙ held));
          }

      not_clock : (m : MachineState) → Clock ≡ Party (Conforming m tt) → ⊥
      not_clock m e = cc e

      not_planned : (n : Plan) → Clock ≡ Party (Planned n) → ⊥
      not_planned n e = cc e

      not_party : (v : ℕ) → v < length ts → v ≢ e.graph.n → v < e.graph.n
      not_party v lt apart = let n = places.actors in omega (arith, lt, n, apart)

      machine_or_clock : (v : ℕ) (m : MachineState) → v < length ts → turn_actor ts v ≡ Party (Conforming m tt) → (v ≡ e.graph.n) ⊎ (v ≢ e.graph.n)
          → IsMachineSeated shared m (held_passes (slice_get ts v))
      machine_or_clock v m lt is (inl at) =
          absurd (not_clock m (sym (actors e.graph.n ∙ s.clock) ∙ subst (λ w. turn_actor ts w ≡ Party (Conforming m tt)) at is))
      machine_or_clock v m lt is (inr apart) = seated_machine v m (not_party v lt apart) is

      planner_or_clock : (v : ℕ) (n : Plan) → v < length ts → turn_actor ts v ≡ Party (Planned n) → (v ≡ e.graph.n) ⊎ (v ≢ e.graph.n)
          → IsPlannerSeated holds job shared v n (held_passes (slice_get ts v))
      planner_or_clock v n lt is (inl at) =
          absurd (not_planned n (sym (actors e.graph.n ∙ s.clock) ∙ subst (λ w. turn_actor ts w ≡ Party (Planned n)) at is))
      planner_or_clock v n lt is (inr apart) = seated_planner v n (not_party v lt apart) is

      clock_or_party : (v : ℕ) → v < length ts → turn_actor ts v ≡ Clock → (v ≡ e.graph.n) ⊎ (v ≢ e.graph.n)
          → AreLedgerClocks ticks shared (held_clocks (slice_get ts v))
      clock_or_party v lt is (inl at) = subst (λ w. AreLedgerClocks ticks shared (held_clocks (slice_get ts w))) (sym at) seated_clock
      clock_or_party v lt is (inr apart) = absurd (subst (IsJobActor job v) (sym (actors v) ∙ is) (s.actors v (not_party v lt apart)))

      seated_actor : (v : ℕ) (x : Actor) → v < length ts → turn_actor ts v ≡ x
          → IsActorSeated holds job shared ticks v (held_passes (slice_get ts v)) (held_clocks (slice_get ts v)) x
      seated_actor v (Party (Conforming m u)) lt is = machine_or_clock v m lt is (same_or_not v e.graph.n)
      seated_actor v (Party (Planned n)) lt is = planner_or_clock v n lt is (same_or_not v e.graph.n)
      seated_actor v (Party Manual) lt is = tt
      seated_actor v Clock lt is = clock_or_party v lt is (same_or_not v e.graph.n)

      pub seated : (i : ℕ) (t : Turn) → i < length ts → IsSeated holds job shared ticks i (get_or ts i t)
      seated i t lt =
          let there : slice_get ts i ≡ Some (get_or ts i t) = slice_get-get_or ts i t lt in
          subst (λ o. IsActorSeated holds job shared ticks i (held_passes o) (held_clocks o) (numbered_actor o)) there (seated_actor i (turn_actor ts i) lt refl)
