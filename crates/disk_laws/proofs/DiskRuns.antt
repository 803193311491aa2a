-- A run on disks is the run, and its disks tell what its parties signed.
use Rattle.std.proofs.Common.{◌≡◌, ◌≢◌, ◌⊎◌, inl, inr, ℕ, suc, ◌≤◌, ◌<◌, Bool, true, false, cond, List, [], ◌∷◌, ◌++◌, length, slice_set}
use Rattle.std.proofs.Common.{replicate, Option, Some, None, refl, sym, ◌∙◌, ap, subst, arith, zero-add, All}
use Rattle.std.proofs.lemmas.Option.{same_Some}
use Rattle.std.proofs.lemmas.List.{length-set, length-replicate, get_or-set_same, get_or-set_other, get_or-replicate}
use Rattle.std.proofs.lemmas.List.Elements.{All-append}
use Rattle.std.proofs.lemmas.List.Sums.{fold-append}
use Rattle.std.proofs.lemmas.List.FromFn.{get_or-map-range_with_len, length-map-range_with_len}
use Rattle.sha2.proofs.Facts256.{length-sha256}
use Rattle.swap_base.specs.Lists.{IsElement}
use Rattle.swap_digraph.specs.declared.deal.Deal.{Deal}
use Rattle.hashkey_path.specs.declared.hashkey.Hashkey.{Hashkey}
use Rattle.hashkey_path.specs.Digest.{deal_bytes, deal_id}
use Rattle.party_wallet.specs.Value.{signed_hashkey}
use Rattle.wallet_journal.specs.Layout.{recorded}
use Rattle.wallet_journal.specs.Held.{Held, visible_bytes, Leaves}
use Rattle.ledger_core.specs.declared.entry.Call.{Call}
use Rattle.ledger_core.specs.declared.entry.Call.TheVariants.{Publish, Unlock, Claim, Refund, Transfer}
use Rattle.ledger_core.specs.Book.{Histories, history}
use Rattle.ledger_core.specs.Ledger.{after_call}
use Rattle.swap_job.specs.declared.event.Event.{Event}
use Rattle.swap_job.specs.declared.event.Event.TheVariants.{Tick, Look, Act, Call as Calls, Crash}
use Rattle.swap_job.specs.declared.job.Role.{Role}
use Rattle.swap_job.specs.declared.job.Role.TheVariants.{Conforming, Manual, Script, Strategy}
use Rattle.swap_job.specs.Step.{CanStep}
use Rattle.swap_job.specs.Resolved.{resolved}
use Rattle.swap_rules.specs.Due.{Wallet, Action, due}
use Rattle.swap_rules.proofs.Cases.{case_of, first_in}
use Rattle.swap_rules.proofs.Due.{IsDue}
use Rattle.swap_rules.proofs.Growth.{Grows}
use Rattle.swap_rules.proofs.Prefixes.{same_or_not}
use Rattle.party_machine.specs.Recording.{unsigned_key, new_key, IsCallPlaced}
use Rattle.party_machine.proofs.Recorded.{below}
use Rattle.swap_run.specs.Script.{next_call, moves_left}
use Rattle.swap_run.specs.Run.{Cast, Notes, State, conforms, party_role, party_plan, state_notes, next_action, make, act, role_act, take_call, look, notes_with_ledger, watch, after_turn}
use Rattle.swap_run.specs.Run.{after_question, answered_call, recorded_hashkeys, relearnt, crash, signed_through_call, step, start, run, continued_run, no_notes}
use Rattle.swap_run.specs.Laws.{IsReadyCast, IsGood}
use Rattle.swap_run.specs.Steps.{finish_steps}
use Rattle.swap_run.specs.Fair.{finish}
use Rattle.swap_run.proofs.Along.{finish_run, finish_can}
use Rattle.swap_run.proofs.Good.{holds, start_is_good, steps_are_good, unlocks_are_signed}
use Rattle.swap_run.proofs.Noted.{Holds, due_now, low_lock}
use Rattle.swap_world.specs.Recorded.{IsPartyDisk}
use Rattle.swap_world.proofs.Restarts.{signs_nothing, seen_left}
use Rattle.disk_laws.specs.DiskCalls.{new_disk}
use Rattle.disk_laws.specs.DiskRun.{StateOnDisks, party_disk, act_key, disk_behind, crashed_disk, read_back, restart_from, act_on_disk, crash_on_disk}
use Rattle.disk_laws.specs.DiskRun.{step_beside_disks, step_on_disks, start_on_disks, continued_on_disks, run_on_disks}
use Rattle.disk_laws.specs.Laws.{TookWhole, SignsWhole, IsCrash, IsOnDisk, RunsAreOnDisks, FinishesAreOnDisks}
use Rattle.disk_laws.specs.AnyRun.{Crashes, CanLeave, disk_of, happens}
use Rattle.disk_laws.proofs.Images.{new_disks_are_made}
use Rattle.disk_laws.proofs.Whole.{is_fresh, unsigned_parts}
use Rattle.disk_laws.proofs.Grown.{run_grows, took_before}
use Rattle.disk_laws.proofs.Telling.{Tells, Acts, Calm, Signs, IsReadAs, left_only, crash_reads, tells_crashed, tells_act, tells_left, any_reads}

-- the hashkey of a due unlock is for one of the locks, and it is the one that was signed for its
-- lock, if one was
placed : (d : Deal) (b : Histories) (n : Notes) (v : ℕ) (w : Wallet) (x : Action) → Holds d b n v
    → IsDue d v w (signed_hashkey n.signed) n.known n.known x.arc x.call → (c : Call) → x.call ≡ c → IsCallPlaced n.signed c
placed d b n v w x h is (Unlock key) e = (low_lock d b n v w x h is key e, same)
  where
    same : (k : Hashkey) → signed_hashkey n.signed key.lock ≡ Some k → k ≡ key
    same k q =
        let u : IsDue d v w (signed_hashkey n.signed) n.known n.known x.arc (Unlock key) =
        subst (λ z. IsDue d v w (signed_hashkey n.signed) n.known n.known x.arc z) e is in
        same_Some k key (sym (u.keeps_signed key.lock k q) ∙ u.rule.2)
placed d b n v w x h is (Publish terms) e = tt
placed d b n v w x h is Claim e = tt
placed d b n v w x h is Refund e = tt
placed d b n v w x h is (Transfer to units) e = tt

-- the notes of v after its call, and after its crash
abbrev act_notes : Deal → State → ℕ → Action → Notes
act_notes d s v x = record {
  known = slice_set (state_notes s v).known x.arc (after_call d x.arc v x.call (history s.book x.arc));
  signed = signed_through_call (state_notes s v).signed x.call;
}

abbrev crash_notes : Cast → State → ℕ → (k image : ℕ) → Notes
crash_notes c s v k image = record { known = relearnt c.deal v s.book; signed = recorded_hashkeys (state_notes s v).signed (next_action c s v) k image }

signed_same : (s : State) (v : ℕ) (n : Notes) → v < length s.notes → (state_notes (record s { notes = slice_set s.notes v n }) v).signed ≡ n.signed
signed_same s v n lt = ap (λ (m : Notes). m.signed) (get_or-set_same s.notes v n (record { known = []; signed = [] }) lt)

signed_other : (s : State) (v u : ℕ) (n : Notes) → u ≢ v → (state_notes (record s { notes = slice_set s.notes v n }) u).signed ≡ (state_notes s u).signed
signed_other s v u n apart = ap (λ (m : Notes). m.signed) (get_or-set_other s.notes v u n (record { known = []; signed = [] }) apart)

-- What every state of the run on disks keeps.
pub record KeepsDisks (c : Cast) (t : StateOnDisks) : Type 0 where
  pub good : IsGood c t.state
  pub one_each : length t.disks ≡ c.deal.graph.n
  pub disks : (v : ℕ) → v < c.deal.graph.n → conforms c v ≡ true → Tells c.deal (state_notes t.state v).signed (party_disk t v)

-- One party.
module _ (c : Cast) (t : StateOnDisks) (ready : IsReadyCast c) (keep : KeepsDisks c t) (took : TookWhole t.state.book) (v : ℕ) (lv : v < c.deal.graph.n)
    (cv : conforms c v ≡ true) (signs : SignsWhole (c.wallet v)) where
  notes : Holds c.deal t.state.book (state_notes t.state v) v
  notes = holds c t.state v (keep.good.notes v lv cv)

  few : length c.deal.leaders ≤ 8
  few = ready.accepted.leaders.1

  module _ (x : Action) (e : next_action c t.state v ≡ Some x) where
    element : IsElement x (due c.deal v (c.wallet v) (signed_hashkey (state_notes t.state v).signed) (state_notes t.state v).known)
    element = first_in (due c.deal v (c.wallet v) (signed_hashkey (state_notes t.state v).signed) (state_notes t.state v).known) x e

    is : IsDue c.deal v (c.wallet v) (signed_hashkey (state_notes t.state v).signed) (state_notes t.state v).known (state_notes t.state v).known x.arc x.call
    is = due_now c.deal t.state.book (state_notes t.state v) v (c.wallet v) x (ready.wallets v lv cv) ready.accepted element notes

    nothing : unsigned_key (state_notes t.state v).signed x.call ≡ None
        → signed_through_call (state_notes t.state v).signed x.call ≡ (state_notes t.state v).signed
    nothing none =
        signs_nothing (state_notes t.state v).signed x.call
        (placed c.deal t.state.book (state_notes t.state v) v (c.wallet v) x notes is x.call refl) none

  grows : Grows (state_notes t.state v).known t.state.book
  grows a =
      let k = notes.knows a in
      (k.rest, k.whole)

  acts : Acts c.deal (state_notes t.state v).signed (next_action c t.state v) (act_key c t.state v)
  acts = go (next_action c t.state v) refl
    where
      by_key : (x : Action) → next_action c t.state v ≡ Some x → (o : Option Hashkey) → unsigned_key (state_notes t.state v).signed x.call ≡ o
          → Acts c.deal (state_notes t.state v).signed (next_action c t.state v) (act_key c t.state v)
      by_key x e None u =
          Calm (ap (new_key (state_notes t.state v).signed) e ∙ u)
          (λ y q. subst (λ z. signed_through_call (state_notes t.state v).signed z.call ≡ (state_notes t.state v).signed) (same_Some x y (sym e ∙ q))
          (nothing x e u))
      by_key x e (Some key) u =
          Signs x key e (ap (new_key (state_notes t.state v).signed) e ∙ u) (unsigned_parts (state_notes t.state v).signed x.call key u).0
          (is_fresh c.deal v (c.wallet v) t.state.book (state_notes t.state v).known (state_notes t.state v).signed keep.good.legal signs took grows x.arc x.call key u
          (is x e) (case_of c.deal v (c.wallet v) (signed_hashkey (state_notes t.state v).signed) (state_notes t.state v).known x (element x e)))

      go : (o : Option Action) → next_action c t.state v ≡ o → Acts c.deal (state_notes t.state v).signed (next_action c t.state v) (act_key c t.state v)
      go None e = Calm (ap (new_key (state_notes t.state v).signed) e) (λ y q. absurd (cc (sym e ∙ q)))
      go (Some x) e = by_key x e (unsigned_key (state_notes t.state v).signed x.call) refl

  tells : Tells c.deal (state_notes t.state v).signed (party_disk t v)
  tells = keep.disks v lv cv

  all_reads : (k image : ℕ) → k ≤ 3
      → read_back c.deal (visible_bytes (crashed_disk c t v k image)) ≡ recorded_hashkeys (state_notes t.state v).signed (next_action c t.state v) k image
  all_reads k image le =
      crash_reads c.deal few (state_notes t.state v).signed (party_disk t v) tells (next_action c t.state v) (act_key c t.state v) acts k image le

  pub restarts : (bytes : List ℕ) (k image : ℕ) → read_back c.deal bytes ≡ recorded_hashkeys (state_notes t.state v).signed (next_action c t.state v) k image
      → restart_from c t.state v bytes ≡ crash c t.state v k image
  restarts bytes k image e =
      ap (λ (l : List (Option Hashkey)). record t.state { notes = slice_set t.state.notes v (record { known = relearnt c.deal v t.state.book; signed = l }) }) e

  pub all_crashes : (k image : ℕ) → k ≤ 3 → (crash_on_disk c t v k image).state ≡ crash c t.state v k image
  all_crashes k image le = restarts (visible_bytes (crashed_disk c t v k image)) k image (all_reads k image le)

  pub any_read : (n : ℕ) (bytes : List ℕ) → n ≤ 4 → Leaves (disk_behind c t v n) bytes
      → IsReadAs c.deal (state_notes t.state v).signed (next_action c t.state v) bytes
  any_read n bytes le left =
      any_reads c.deal few (state_notes t.state v).signed (party_disk t v) tells (next_action c t.state v) (act_key c t.state v) acts n bytes le left

  pub any_crash : (n : ℕ) (bytes : List ℕ) → n ≤ 4 → Leaves (disk_behind c t v n) bytes → IsCrash c t.state v (restart_from c t.state v bytes)
  any_crash n bytes le left =
      let r = any_read n bytes le left in
      record { k = r.k; image = r.image; few = r.few; same = restarts bytes r.k r.image r.read }

  is_disk : IsPartyDisk c.deal t.state v (party_disk t v)
  is_disk = record {
    read = seen_left (party_disk t v) tells.made.settled;
    calls = λ a past e key m q bytes left.
        let s = unlocks_are_signed c t.state v a past e key keep.good lv cv m q in
        let low = subst (λ n. key.lock < n) tells.places (below (state_notes t.state v).signed key.lock key s) in
        ap (λ (b : List ℕ). recorded b key.lock) (left_only (party_disk t v) bytes tells.made.settled left) ∙ tells.shown key.lock low ∙ s;
    just = λ i lt bytes left.
        ap (λ (b : List ℕ). recorded b i) (left_only (party_disk t v) bytes tells.made.settled left) ∙ tells.shown i lt;
  }

  pub on_disk : IsOnDisk c t v
  on_disk = record { disk = is_disk; reads = all_reads; crashes = all_crashes; any = any_crash }

  pub after_crash : (k image : ℕ) → k ≤ 3
      → Tells c.deal (recorded_hashkeys (state_notes t.state v).signed (next_action c t.state v) k image) (crashed_disk c t v k image)
  after_crash k image le =
      tells_crashed c.deal few (state_notes t.state v).signed (party_disk t v) tells (next_action c t.state v) (act_key c t.state v) acts k image le

  pub after_act : Tells c.deal (state_notes (act c t.state v) v).signed (disk_behind c t v 4)
  after_act =
      tells_act c.deal few (state_notes t.state v).signed (party_disk t v) tells (next_action c t.state v) (act_key c t.state v) acts
      (state_notes (act c t.state v) v).signed made none
    where
      made : (x : Action) → next_action c t.state v ≡ Some x
          → (state_notes (act c t.state v) v).signed ≡ signed_through_call (state_notes t.state v).signed x.call
      made x e =
          ap (λ (o : Option Action). (state_notes (make c.deal t.state v o) v).signed) e
          ∙ signed_same t.state v (act_notes c.deal t.state v x) (subst (λ m. v < m) (sym keep.good.one_each) lv)

      none : next_action c t.state v ≡ None → (state_notes (act c t.state v) v).signed ≡ (state_notes t.state v).signed
      none e = ap (λ (o : Option Action). (state_notes (make c.deal t.state v o) v).signed) e

-- What other parties have signed stays as it was.

took_same : (c : Cast) (s : State) (v : ℕ) (o : Option (ℕ × Call)) → (take_call c s v o).notes ≡ s.notes
took_same c s v None = refl
took_same c s v (Some x) = refl

role_same : (c : Cast) (s : State) (v : ℕ) (role : Role) → (role_act c s v role).notes ≡ s.notes
role_same c s v Conforming = refl
role_same c s v Manual = refl
role_same c s v (Script moves) =
    took_same c (after_turn s v (moves_left (party_plan s v).known (party_plan s v).moves)) v
    (next_call c.deal c.seeds (party_plan s v).known (party_plan s v).moves)
role_same c s v (Strategy name) = took_same c (after_question s v name) v (answered_call c.deal v (c.answers (length s.asked)))

notes_of : (s t : State) (u : ℕ) → s.notes ≡ t.notes → (state_notes s u).signed ≡ (state_notes t u).signed
notes_of s t u e = ap (λ (ns : List Notes). (state_notes (record t { notes = ns }) u).signed) e

act_other : (c : Cast) (s : State) (v u : ℕ) (o : Option Action) → u ≢ v → (state_notes (make c.deal s v o) u).signed ≡ (state_notes s u).signed
act_other c s v u None apart = refl
act_other c s v u (Some x) apart = signed_other s v u (act_notes c.deal s v x) apart

look_same : (s : State) (v a u : ℕ) → v < length s.notes → (state_notes (look s v a) u).signed ≡ (state_notes s u).signed
look_same s v a u lt = go (same_or_not u v)
  where
    go : (u ≡ v) ⊎ (u ≢ v) → (state_notes (look s v a) u).signed ≡ (state_notes s u).signed
    go (inl e) = subst (λ z. (state_notes (look s v a) z).signed ≡ (state_notes s z).signed) (sym e)
        (signed_same s v (notes_with_ledger (state_notes s v) a (history s.book a)) lt)
    go (inr apart) = signed_other s v u (notes_with_ledger (state_notes s v) a (history s.book a)) apart

-- A step.

pub record IsStep (c : Cast) (t : StateOnDisks) (e : Event) : Type 0 where
  pub same : (step_on_disks c t e).state ≡ step c t.state e
  pub keep : KeepsDisks c (step_on_disks c t e)

module _ (c : Cast) (t : StateOnDisks) (e : Event) (good : IsGood c (step c t.state e)) (keep : KeepsDisks c t) where
  -- an event that uses no disk
  beside : ((u : ℕ) → u < c.deal.graph.n → conforms c u ≡ true → (state_notes (step c t.state e) u).signed ≡ (state_notes t.state u).signed)
      → KeepsDisks c (step_beside_disks c t e)
  beside signed = record {
    good = good;
    one_each = keep.one_each;
    disks = λ u lu cu. subst (λ (l : List (Option Hashkey)). Tells c.deal l (party_disk t u)) (sym (signed u lu cu)) (keep.disks u lu cu);
  }

  -- an event that uses the disk of v
  module _ (new : StateOnDisks) (v : ℕ) (h : Held) (lv : v < c.deal.graph.n) (same : new.state ≡ step c t.state e) (disks : new.disks ≡ slice_set t.disks v h)
      (own : Tells c.deal (state_notes (step c t.state e) v).signed h)
      (others : (u : ℕ) → u ≢ v → (state_notes (step c t.state e) u).signed ≡ (state_notes t.state u).signed) where
    here : party_disk new v ≡ h
    here =
        ap (λ (hs : List Held). party_disk (record { state = new.state; disks = hs }) v) disks
        ∙ get_or-set_same t.disks v h (record { synced = []; loose = []; spare = 0 }) (subst (λ m. v < m) (sym keep.one_each) lv)

    there : (u : ℕ) → u ≢ v → party_disk new u ≡ party_disk t u
    there u apart =
        ap (λ (hs : List Held). party_disk (record { state = new.state; disks = hs }) u) disks
        ∙ get_or-set_other t.disks v u h (record { synced = []; loose = []; spare = 0 }) apart

    on : (u : ℕ) → u < c.deal.graph.n → conforms c u ≡ true → (u ≡ v) ⊎ (u ≢ v) → Tells c.deal (state_notes (step c t.state e) u).signed (party_disk new u)
    on u lu cu (inl q) =
        subst (λ z. Tells c.deal (state_notes (step c t.state e) z).signed (party_disk new z)) (sym q)
        (subst (Tells c.deal (state_notes (step c t.state e) v).signed) (sym here) own)
    on u lu cu (inr apart) =
        subst (Tells c.deal (state_notes (step c t.state e) u).signed) (sym (there u apart))
        (subst (λ (l : List (Option Hashkey)). Tells c.deal l (party_disk t u)) (sym (others u apart)) (keep.disks u lu cu))

    using : KeepsDisks c new
    using = record {
      good = subst (IsGood c) (sym same) good;
      one_each = ap length disks ∙ length-set t.disks v h ∙ keep.one_each;
      disks = λ u lu cu. subst (λ (s : State). Tells c.deal (state_notes s u).signed (party_disk new u)) (sym same) (on u lu cu (same_or_not u v));
    }

-- a crash that leaves any bytes
pub any_step : (c : Cast) (t : StateOnDisks) (v n : ℕ) (bytes : List ℕ) → IsReadyCast c → SignsWhole (c.wallet v) → TookWhole t.state.book
    → CanLeave c t v n bytes → KeepsDisks c t → KeepsDisks c (happens c t (Crashes v n bytes))
any_step c t v n bytes ready signs took can keep =
    let r = any_read c t ready keep took v can.known can.conforms signs n bytes can.few can.left in
    let same = restarts c t ready keep took v can.known can.conforms signs bytes r.k r.image r.read in
    using c t (Crash v r.k r.image)
    (steps_are_good c t.state (Crash v r.k r.image) ready (record { known = can.known; conforms = can.conforms; few = r.few }) keep.good) keep
    (happens c t (Crashes v n bytes)) v (disk_of bytes) can.known same refl
    (subst (λ (l : List (Option Hashkey)). Tells c.deal l (disk_of bytes))
    (sym (signed_same t.state v (crash_notes c t.state v r.k r.image) (subst (λ m. v < m) (sym keep.good.one_each) can.known)))
    (tells_left c.deal (state_notes t.state v).signed (next_action c t.state v) bytes r))
    (λ u apart. signed_other t.state v u (crash_notes c t.state v r.k r.image) apart)

pub a_step : (c : Cast) (t : StateOnDisks) (e : Event) → IsReadyCast c → ((v : ℕ) → v < c.deal.graph.n → conforms c v ≡ true → SignsWhole (c.wallet v))
    → TookWhole t.state.book → CanStep c.deal c.conforming c.seeds e → KeepsDisks c t → IsStep c t e
a_step c t (Tick a k) ready signs took can keep = record {
  same = refl;
  keep = beside c t (Tick a k) (steps_are_good c t.state (Tick a k) ready can keep.good) keep (λ u lu cu. refl);
}
a_step c t (Look v a) ready signs took can keep = record {
  same = refl;
  keep = beside c t (Look v a) (steps_are_good c t.state (Look v a) ready can keep.good) keep (λ u lu cu. go u (conforms c v));
}
  where
    go : (u : ℕ) (b : Bool) → (state_notes (cond b (look t.state v a) (watch c t.state v a)) u).signed ≡ (state_notes t.state u).signed
    go u true = look_same t.state v a u (subst (λ m. v < m) (sym keep.good.one_each) can.known)
    go u false = refl
a_step c t (Calls v mv) ready signs took can keep = record {
  same = refl;
  keep = beside c t (Calls v mv) (steps_are_good c t.state (Calls v mv) ready can keep.good) keep
      (λ u lu cu. notes_of (step c t.state (Calls v mv)) t.state u (took_same c t.state v (resolved c.deal c.seeds t.state.book mv)));
}
a_step c t (Crash v k image) ready signs took can keep =
    let same = all_crashes c t ready keep took v can.known can.conforms (signs v can.known can.conforms) k image can.few in
    record {
      same = same;
      keep = using c t (Crash v k image) (steps_are_good c t.state (Crash v k image) ready can keep.good) keep (crash_on_disk c t v k image) v
          (crashed_disk c t v k image) can.known same refl
          (subst (λ (l : List (Option Hashkey)). Tells c.deal l (crashed_disk c t v k image))
          (sym (signed_same t.state v (crash_notes c t.state v k image) (subst (λ m. v < m) (sym keep.good.one_each) can.known)))
          (after_crash c t ready keep took v can.known can.conforms (signs v can.known can.conforms) k image can.few))
          (λ u apart. signed_other t.state v u (crash_notes c t.state v k image) apart);
    }
a_step c t (Act v) ready signs took can keep = go (conforms c v) refl
  where
    good : IsGood c (step c t.state (Act v))
    good = steps_are_good c t.state (Act v) ready can keep.good

    conforming : conforms c v ≡ true → IsStep c t (Act v)
    conforming cv =
        let same : act c t.state v ≡ step c t.state (Act v) = sym (ap (λ (b : Bool). cond b (act c t.state v) (role_act c t.state v (party_role c v))) cv) in
        let on : step_on_disks c t (Act v) ≡ act_on_disk c t v = ap (λ (b : Bool). cond b (act_on_disk c t v) (step_beside_disks c t (Act v))) cv in
        record {
          same = ap (λ (x : StateOnDisks). x.state) on ∙ same;
          keep = subst (KeepsDisks c) (sym on)
              (using c t (Act v) good keep (act_on_disk c t v) v (disk_behind c t v 4) can same refl
              (subst (λ (s : State). Tells c.deal (state_notes s v).signed (disk_behind c t v 4)) same (after_act c t ready keep took v can cv (signs v can cv)))
              (λ u apart. ap (λ (s : State). (state_notes s u).signed) (sym same) ∙ act_other c t.state v u (next_action c t.state v) apart));
        }

    planned : conforms c v ≡ false → IsStep c t (Act v)
    planned out =
        let is : step c t.state (Act v) ≡ role_act c t.state v (party_role c v) =
        ap (λ (b : Bool). cond b (act c t.state v) (role_act c t.state v (party_role c v))) out in
        let on : step_on_disks c t (Act v) ≡ step_beside_disks c t (Act v) = ap (λ (b : Bool). cond b (act_on_disk c t v) (step_beside_disks c t (Act v))) out in
        record {
          same = ap (λ (x : StateOnDisks). x.state) on;
          keep = subst (KeepsDisks c) (sym on) (beside c t (Act v) good keep
              (λ u lu cu. ap (λ (s : State). (state_notes s u).signed) is ∙ notes_of (role_act c t.state v (party_role c v)) t.state u
              (role_same c t.state v (party_role c v))));
        }

    go : (b : Bool) → conforms c v ≡ b → IsStep c t (Act v)
    go true e = conforming e
    go false e = planned e

-- The run.

record IsContinued (c : Cast) (t : StateOnDisks) (events : List Event) : Type 0 where
  same : (continued_on_disks c t events).state ≡ continued_run c t.state events
  keep : KeepsDisks c (continued_on_disks c t events)

continued : (c : Cast) (events : List Event) (t : StateOnDisks) → IsReadyCast c
    → ((v : ℕ) → v < c.deal.graph.n → conforms c v ≡ true → SignsWhole (c.wallet v)) → TookWhole (continued_run c t.state events).book
    → All (CanStep c.deal c.conforming c.seeds) events → KeepsDisks c t → IsContinued c t events
continued c [] t ready signs took all keep = record { same = refl; keep = keep }
continued c (e ∷ events) t ready signs took all keep =
    let before = took_before t.state.book (continued_run c t.state (e ∷ events)).book (run_grows c t.state (e ∷ events)) took in
    let one = a_step c t e ready signs before (all 0 e (omega arith)) keep in
    let rest =
    continued c events (step_on_disks c t e) ready signs (subst (λ (s : State). TookWhole (continued_run c s events).book) (sym one.same) took)
    (λ k d l. all (suc k) d (omega (arith, l))) one.keep in
    record { same = rest.same ∙ ap (λ (s : State). continued_run c s events) one.same; keep = rest.keep }

id_length : (d : Deal) → length (deal_id d) ≡ 32
unfolding deal_id
id_length d = length-sha256 (6 ∷ deal_bytes d)

pub started : (c : Cast) → IsReadyCast c → KeepsDisks c (start_on_disks c)
started c ready = record {
  good = start_is_good c ready;
  one_each = length-map-range_with_len (new_disk c.deal) 0 c.deal.graph.n;
  disks = λ v lv cv. begun v lv;
}
  where
    size : length c.deal.id ≡ 32
    size = ap length ready.accepted.id ∙ id_length c.deal

    begun : (v : ℕ) → v < c.deal.graph.n → Tells c.deal (state_notes (start c) v).signed (party_disk (start_on_disks c) v)
    begun v lv =
        let new = new_disks_are_made c.deal v size in
        let disk : party_disk (start_on_disks c) v ≡ new_disk c.deal v =
        get_or-map-range_with_len (new_disk c.deal) 0 c.deal.graph.n v v (record { synced = []; loose = []; spare = 0 }) lv (zero-add v) in
        let signed : (state_notes (start c) v).signed ≡ replicate (length c.deal.leaders) None =
        ap (λ (n : Notes). n.signed) (get_or-replicate c.deal.graph.n v (no_notes c.deal) (record { known = []; signed = [] }) lv) in
        subst (Tells c.deal (state_notes (start c) v).signed) (sym disk)
        (subst (λ (l : List (Option Hashkey)). Tells c.deal l (new_disk c.deal v)) (sym signed) (record {
          made = new.0;
          places = length-replicate (length c.deal.leaders) None;
          shown = λ i lt. new.1.none i (omega (arith, lt, ready.accepted.leaders.1)) ∙ sym (get_or-replicate (length c.deal.leaders) i None None lt);
        }))

pub runs_are_on_disks : RunsAreOnDisks
runs_are_on_disks c events can all =
    let r = continued c events (start_on_disks c) can.ready can.signs can.took all (started c can.ready) in
    let took = subst (λ (s : State). TookWhole s.book) (sym r.same) can.took in
    record {
      same = r.same;
      disks = λ v lv cv. on_disk c (run_on_disks c events) can.ready r.keep took v lv cv (can.signs v lv cv);
    }

pub finishes_are_on_disks : FinishesAreOnDisks
finishes_are_on_disks c events can all =
    let more = finish_steps c (run c events) in
    let ends : run c (events ++ finish_steps c (run c events)) ≡ finish c (run c events) =
    fold-append (step c) (start c) events (finish_steps c (run c events)) ∙ finish_run c (run c events) in
    let r =
    runs_are_on_disks c (events ++ finish_steps c (run c events)) (record {
      ready = can.ready;
      signs = can.signs;
      took = subst (λ (s : State). TookWhole s.book) (sym ends) can.took;
    }) (All-append (CanStep c.deal c.conforming c.seeds) events (finish_steps c (run c events)) all (finish_can c (run c events))) in
    (r.same ∙ ends, r)
