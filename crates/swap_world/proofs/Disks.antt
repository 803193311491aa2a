-- What a crash may leave of the disks of a world's conforming parties, also where memory ran out.
use Rattle.std.proofs.Common.{◌≡◌, ◌≢◌, ◌⊎◌, inl, inr, ℕ, ◌<◌, ◌≤◌, Bool, true, false, List, length, map, get_or, set, Option, Some, None, refl, sym, ap}
use Rattle.std.proofs.Common.{◌∙◌, subst, arith, [], Result, Ok, Err, OnOk, OnErr}
use Rattle.std.specs.Result.{is_err}
use Rattle.std.proofs.lemmas.Bool.{false≢true}
use Rattle.std.proofs.lemmas.List.{length-set, get_or-map, get_or-set_same, get_or-set_other}
use Rattle.swap_digraph.specs.declared.deal.Deal.{Deal}
use Rattle.hashkey_path.specs.declared.hashkey.Hashkey.{Hashkey}
use Rattle.ledger_core.specs.declared.entry.Call.TheVariants.{Unlock}
use Rattle.ledger_core.specs.declared.entry.Entry.{Entry}
use Rattle.ledger_core.specs.Value.{LedgerState}
use Rattle.ledger_core.specs.Book.{Histories, history}
use Rattle.swap_job.specs.declared.event.Event.{Event}
use Rattle.swap_job.specs.declared.event.Event.TheVariants.{Act}
use Rattle.swap_job.specs.declared.job.Role.{Role}
use Rattle.swap_job.specs.declared.job.Role.TheVariants as kinds
use Rattle.swap_job.specs.Step.{CanStep}
use Rattle.swap_base.specs.Lists.{IsMoment}
use Rattle.swap_rules.specs.Party.{pick_call}
use Rattle.party_wallet.specs.Value.{signed_hashkey}
use Rattle.party_machine.specs.Machine.{MachineState, next_due}
use Rattle.swap_rules.specs.Due.{Action}
use Rattle.party_machine.specs.Recording.{MayHave}
use Rattle.party_machine.proofs.Recorded.{below}
use Rattle.wallet_journal.specs.Held.{Held, Leaves, visible_bytes}
use Rattle.wallet_journal.specs.Journal.{JournalState, listed_hashkey}
use Rattle.wallet_journal.specs.Layout.{recorded}
use Rattle.wallet_journal.specs.Memory.{DiskState}
use Rattle.wallet_journal.specs.Stopped.{IsWrittenUp, ShowsAll}
use Rattle.swap_run.specs.Run.{Notes, Question, State, state_notes}
use Rattle.swap_run.specs.Called.{apply_step}
use Rattle.swap_run.specs.Laws.{IsGood, IsReadyCast}
use Rattle.swap_run.proofs.Good.{unlocks_are_signed}
use Rattle.swap_run.proofs.Swept.{steps_on_are_good}
use Rattle.swap_world.specs.Acting.{next_book, histories, next_machine, IsSameOwner}
use Rattle.swap_world.specs.Cast.{made_cast}
use Rattle.swap_world.specs.Inside.{actor_notes, inside_run_state, ArePartyActors, WorldHolds, IsPartyActor}
use Rattle.swap_world.specs.Journals.{AreJournaled, HaveDisks, HasMachineDisk, IsDiskDuringSigning, IsJournaled, IsMachineDisk}
use Rattle.swap_world.specs.Players.{Actor}
use Rattle.swap_world.specs.declared.player.Player.TheVariants.{Conforming, Planned, Manual}
use Rattle.swap_world.specs.declared.world.World.TheInside.{Inside}
use Rattle.swap_world.proofs.Ledgers.{each_but}
use Rattle.swap_world.proofs.Restarts.{seen_left}
use Rattle.swap_world.proofs.States.{actor_set, acted, c, s, state, IsAt}
use Rattle.swap_world.proofs.Worlds.{owned}
use Rattle.swap_job.specs.Crafted.{Seeds}

-- What a machine signed, over a book: each unlock call of its party carries the hashkey that is
-- signed for its lock.
pub record IsSigned (d : Deal) (v : ℕ) (b : Histories) (signed : List (Option Hashkey)) : Type 0 where
  pub places : length signed ≡ length d.leaders
  pub calls : (a : ℕ) (past : List Entry) (e : Entry) (key : Hashkey) → IsMoment (history b a) past e → pick_call v e ≡ Some (Unlock key)
      → signed_hashkey signed key.lock ≡ Some key

-- the same of a player, where it is a machine
abbrev pub HasSigned : Deal → Histories → ℕ → Actor → Type 0
HasSigned d b v (Conforming m j) = IsSigned d v b m.signed
HasSigned d b v _ = Unit {0}

-- and of each player
abbrev pub HaveSigned : Deal → Histories → List Actor → Type 0
HaveSigned d b xs = (v : ℕ) (x : Actor) → v < length xs → x ≡ get_or xs v x → HasSigned d b v x

-- each machine but that of party p has signed what its party's unlock calls carry
abbrev pub OthersSigned : Deal → Histories → List Actor → ℕ → Type 0
OthersSigned d b xs p = (v : ℕ) (x : Actor) → v ≢ p → v < length xs → x ≡ get_or xs v x → HasSigned d b v x

-- Disks between what was signed and what is.

pub between_disk : (d : Deal) (v : ℕ) (b : Histories) (before after : List (Option Hashkey)) (h : Held) → IsDiskDuringSigning before after h → IsSigned d v b before
    → IsMachineDisk d v b after h
between_disk d v b before after h k signed = record {
  places = k.places ∙ signed.places;
  only = λ i key lt c left is. only i key c is (k.each i lt c left);
  calls = λ a past e key m q c left.
      let mine = signed.calls a past e key m q in
      let lt : key.lock < length after = subst (λ n. key.lock < n) (sym k.places) (below before key.lock key mine) in
      has key c mine (k.each key.lock lt c left);
}
  where
    only : (i : ℕ) (key : Hashkey) (c : List ℕ) → recorded c i ≡ Some key → (recorded c i ≡ signed_hashkey before i) ⊎ (recorded c i ≡ signed_hashkey after i)
        → signed_hashkey after i ≡ Some key
    only i key c is (inl e) = k.stays i key (sym e ∙ is)
    only i key c is (inr e) = sym e ∙ is

    has : (key : Hashkey) (c : List ℕ) → signed_hashkey before key.lock ≡ Some key
        → (recorded c key.lock ≡ signed_hashkey before key.lock) ⊎ (recorded c key.lock ≡ signed_hashkey after key.lock) → recorded c key.lock ≡ Some key
    has key c mine (inl e) = e ∙ mine
    has key c mine (inr e) = e ∙ k.stays key.lock key mine

-- a disk that has just what is signed
pub exact_between : (signed shown : List (Option Hashkey)) (h : Held) → shown ≡ signed → ShowsAll shown h → IsDiskDuringSigning signed signed h
exact_between signed shown h same shows = record {
  places = refl;
  each = λ i lt c left. inl (subst (λ (l : List (Option Hashkey)). ShowsAll l h) same shows i lt c left);
  stays = λ i key e. e;
}

-- a disk that has just what is signed, where some was signed since the calls
pub signed_between : (before after shown : List (Option Hashkey)) (h : Held) → length after ≡ length before
    → ((i : ℕ) (key : Hashkey) → signed_hashkey before i ≡ Some key → signed_hashkey after i ≡ Some key) → shown ≡ after → ShowsAll shown h → IsDiskDuringSigning before after h
signed_between before after shown h places stays same shows = record {
  places = places;
  each = λ i lt c left. inr (subst (λ (l : List (Option Hashkey)). ShowsAll l h) same shows i lt c left);
  stays = stays;
}

-- a disk whose crash leaves nothing new
pub unwritten_between : (before after shown : List (Option Hashkey)) (h h' : Held) → length after ≡ length before
    → ((i : ℕ) (key : Hashkey) → signed_hashkey before i ≡ Some key → signed_hashkey after i ≡ Some key) → shown ≡ before → ShowsAll shown h
    → ((c : List ℕ) → Leaves h' c → Leaves h c) → IsDiskDuringSigning before after h'
unwritten_between before after shown h h' places stays same shows fewer = record {
  places = places;
  each = λ i lt c left. inl (subst (λ (l : List (Option Hashkey)). ShowsAll l h) same shows i (subst (λ n. i < n) places lt) c (fewer c left));
  stays = stays;
}

pub fewer_between : (before after : List (Option Hashkey)) (h h' : Held) → IsDiskDuringSigning before after h → ((c : List ℕ) → Leaves h' c → Leaves h c)
    → IsDiskDuringSigning before after h'
fewer_between before after h h' k fewer = record { places = k.places; each = λ i lt c left. k.each i lt c (fewer c left); stays = k.stays }

-- while a hashkey is recorded
module _ (before after : List (Option Hashkey)) (d : DiskState) (h : Held) (next : Option Hashkey) (up : IsWrittenUp d before) (few : length before ≤ 8)
    (places : length after ≡ length before) (stays : (i : ℕ) (key : Hashkey) → signed_hashkey before i ≡ Some key → signed_hashkey after i ≡ Some key)
    (whole : (c : List ℕ) → Leaves h c → Leaves d.held c ⊎ MayHave (visible_bytes d.held) next c)
    (kept : (key : Hashkey) → next ≡ Some key → signed_hashkey after key.lock ≡ Some key) where
  there : (i : ℕ) (c : List ℕ) (key : Hashkey) → i < length before → next ≡ Some key
      → (recorded c i ≡ recorded (visible_bytes d.held) i) ⊎ ((i ≡ key.lock) × (recorded c i ≡ Some key))
      → (recorded c i ≡ signed_hashkey before i) ⊎ (recorded c i ≡ signed_hashkey after i)
  there i c key lt is (inl same) = inl (same ∙ up.shown i lt (visible_bytes d.held) (seen_left d.held up.settled))
  there i c key lt is (inr new) = inr (new.1 ∙ sym (ap (signed_hashkey after) new.0 ∙ kept key is))

  may : (o : Option Hashkey) → next ≡ o → (i : ℕ) (c : List ℕ) → i < length before → Leaves d.held c ⊎ MayHave (visible_bytes d.held) o c
      → (recorded c i ≡ signed_hashkey before i) ⊎ (recorded c i ≡ signed_hashkey after i)
  may o is i c lt (inl was) = inl (up.shown i lt c was)
  may None is i c lt (inr new) = absurd new
  may (Some key) is i c lt (inr new) = there i c key lt is (new i (omega (arith, lt, few)))

  pub recording_between : IsDiskDuringSigning before after h
  recording_between = record {
    places = places;
    each = λ i lt c left. may next refl i c (subst (λ n. i < n) places lt) (whole c left);
    stays = stays;
  }

-- after a crash, whose disk the journal shows
module _ (before after shown : List (Option Hashkey)) (h h' : Held) (bytes : List ℕ) (k : IsDiskDuringSigning before after h) (left : Leaves h bytes)
    (places : length shown ≡ length after) (is : (i : ℕ) → i < length shown → listed_hashkey shown i ≡ recorded bytes i) (shows : ShowsAll shown h') where
  read : (i : ℕ) → i < length after → (recorded bytes i ≡ signed_hashkey before i) ⊎ (recorded bytes i ≡ signed_hashkey after i)
  read i lt = k.each i lt bytes left

  all : (i : ℕ) → i < length after → (c : List ℕ) → Leaves h' c → recorded c i ≡ recorded bytes i
  all i lt c l = let low = subst (λ n. i < n) (sym places) lt in shows i low c l ∙ is i low

  pub crashed_between : IsDiskDuringSigning before after h'
  crashed_between = record { places = k.places; each = λ i lt c l. by i c (all i lt c l) (read i lt); stays = k.stays }
    where
      by : (i : ℕ) (c : List ℕ) → recorded c i ≡ recorded bytes i → (recorded bytes i ≡ signed_hashkey before i) ⊎ (recorded bytes i ≡ signed_hashkey after i)
          → (recorded c i ≡ signed_hashkey before i) ⊎ (recorded c i ≡ signed_hashkey after i)
      by i c e (inl x) = inl (e ∙ x)
      by i c e (inr x) = inr (e ∙ x)

  -- the party then goes on with what the journal shows
  pub resumed_between : (now : List (Option Hashkey)) → now ≡ shown → IsDiskDuringSigning before now h'
  resumed_between now same = signed_between before now shown h' (ap (λ (l : List (Option Hashkey)). length l) same ∙ (places ∙ k.places)) stays (sym same) shows
    where
      by : (i : ℕ) (key : Hashkey) → signed_hashkey before i ≡ Some key → (recorded bytes i ≡ signed_hashkey before i) ⊎ (recorded bytes i ≡ signed_hashkey after i)
          → recorded bytes i ≡ Some key
      by i key e (inl x) = x ∙ e
      by i key e (inr x) = x ∙ k.stays i key e

      stays : (i : ℕ) (key : Hashkey) → signed_hashkey before i ≡ Some key → signed_hashkey now i ≡ Some key
      stays i key e =
          let lt : i < length after = subst (λ n. i < n) (sym k.places) (below before i key e) in
          ap (λ (l : List (Option Hashkey)). signed_hashkey l i) same ∙ (is i (subst (λ n. i < n) (sym places) lt) ∙ by i key e (read i lt))

-- Books of good states.

pub have_signed : (d : Deal) (conforming : List Bool) (seeds : Seeds) (roles : List Role) (t : State) (ys : List Actor)
    → ArePartyActors d conforming seeds roles ys
    → IsGood (made_cast d conforming seeds roles) t → t.notes ≡ map (actor_notes d) ys → HaveSigned d t.book ys
have_signed d conforming seeds roles t ys actors good notes v x lt here = go x here
  where
    go : (x : Actor) → x ≡ get_or ys v x → HasSigned d t.book v x
    go (Conforming m j) here =
        let is = actors.each v (Conforming m j) lt here in
        let none : Notes = record { known = []; signed = [] } in
        let lv : v < d.graph.n = subst (λ n. v < n) actors.one_each lt in
        let same : state_notes t v ≡ record { known = m.known; signed = m.signed } =
        ap (λ (ns : List Notes). get_or ns v none) notes
        ∙ (get_or-map (actor_notes d) ys v (Conforming m j) none lt ∙ ap (actor_notes d) (sym here)) in
        record {
          places = ap (λ (n : Notes). length n.signed) (sym same) ∙ (good.notes v lv is.0).places;
          calls = λ a past e key mo q. ap (λ (n : Notes). signed_hashkey n.signed key.lock) (sym same)
              ∙ unlocks_are_signed (made_cast d conforming seeds roles) t v a past e key good lv is.0 mo q;
        }
    go (Planned n) here = tt
    go Manual here = tt

-- before an event that no machine notes, or after it
pub have_either : (d : Deal) (conforming : List Bool) (seeds : Seeds) (roles : List Role) (qs : List Question) (ls : List LedgerState) (xs : List Actor)
    (sw : ℕ → Bool) (e : Event) (b : Histories) → ArePartyActors d conforming seeds roles xs → IsReadyCast (c d conforming seeds roles qs ls xs)
    → CanStep d conforming seeds e → IsGood (c d conforming seeds roles qs ls xs) (s d conforming seeds roles qs ls xs)
    → (apply_step sw (c d conforming seeds roles qs ls xs) (s d conforming seeds roles qs ls xs) e).notes ≡ map (actor_notes d) xs
    → (b ≡ histories ls) ⊎ (b ≡ (apply_step sw (c d conforming seeds roles qs ls xs) (s d conforming seeds roles qs ls xs) e).book) → HaveSigned d b xs
have_either d conforming seeds roles qs ls xs sw e b actors ready can good notes (inl q) =
    subst (λ (h : Histories). HaveSigned d h xs) (sym q) (have_signed d conforming seeds roles (s d conforming seeds roles qs ls xs) xs actors good refl)
have_either d conforming seeds roles qs ls xs sw e b actors ready can good notes (inr q) =
    let cast = c d conforming seeds roles qs ls xs in
    let old = s d conforming seeds roles qs ls xs in
    subst (λ (h : Histories). HaveSigned d h xs) (sym q)
    (have_signed d conforming seeds roles (apply_step sw cast old e) xs actors (steps_on_are_good sw cast old e ready can good) notes)

-- The disks of a world.

disk_of : (d : Deal) (b : Histories) (v : ℕ) (x : Actor) → IsJournaled d v x → HasSigned d b v x → HasMachineDisk d b v x
disk_of d b v (Conforming m j) k have = between_disk d v b m.signed m.signed j.disk.held (exact_between m.signed j.signed j.disk.held k.has k.shows) have
disk_of d b v (Planned n) k have = tt
disk_of d b v Manual k have = tt

pub disks_stay : (d : Deal) (b : Histories) (xs : List Actor) → AreJournaled d xs → HaveSigned d b xs → HaveDisks d b xs
disks_stay d b xs k signed v x lt here = disk_of d b v x (k v x lt here) (signed v x lt here)

-- who isn't in the place of party p
pub others_signed : (d : Deal) (b : Histories) (xs : List Actor) (p : ℕ) (x : Actor) → HaveSigned d b (set xs p x) → OthersSigned d b xs p
others_signed d b xs p x signed v y apart lt here =
    signed v y (subst (λ n. v < n) (sym (length-set xs p x)) lt) (here ∙ sym (get_or-set_other xs p v x y apart))

-- a machine and its journal stand in the place of party p
pub disks_set : (d : Deal) (b : Histories) (xs : List Actor) (p : ℕ) (new : MachineState) (j : JournalState DiskState) → AreJournaled d xs
    → OthersSigned d b xs p → p < length xs → IsMachineDisk d p b new.signed j.disk.held → HaveDisks d b (set xs p (Conforming new j))
disks_set d b xs p new j k others lt here =
    each_but (HasMachineDisk d b) xs p (Conforming new j) (λ v x apart l e. disk_of d b v x (k v x l e) (others v x apart l e)) lt here

-- what holds whether memory ran out or not
pub any_result : {A E : Type 0} {P : Type 0} (r : Result A E) → OnOk r P → OnErr r P → P
any_result (Ok x) p q = p
any_result (Err e) p q = q

-- where the world is stopped, memory ran out
pub err_unless : {A E : Type 0} {P : Type 0} (r : Result A E) (stopped : Bool) → stopped ≡ is_err r → stopped ≡ true → OnErr r P → P
err_unless (Ok x) stopped is on h = absurd (false≢true (sym is ∙ on))
err_unless (Err e) stopped is on h = h

-- memory ran out in a conforming party's crash
pub crashed_disks : (d : Deal) (conforming : List Bool) (seeds : Seeds) (roles : List Role) (qs : List Question) (ls : List LedgerState) (xs : List Actor)
    (p : ℕ) (m new : MachineState) (i j : JournalState DiskState)
    → IsAt d conforming seeds roles qs ls xs p m i → ArePartyActors d conforming seeds roles xs
    → IsGood (c d conforming seeds roles qs ls xs) (s d conforming seeds roles qs ls xs) → AreJournaled d xs
    → IsDiskDuringSigning m.signed new.signed j.disk.held → HaveDisks d (histories ls) (set xs p (Conforming new j))
crashed_disks d conforming seeds roles qs ls xs p m new i j place actors good k between =
    let signed = have_signed d conforming seeds roles (s d conforming seeds roles qs ls xs) xs actors good refl in
    disks_set d (histories ls) xs p new j k (λ v x apart lt here. signed v x lt here) place.below
    (between_disk d p (histories ls) m.signed new.signed j.disk.held between (signed p (Conforming m i) place.below place.here))

-- memory ran out in its act: before its call, or after it
module _ (d : Deal) (conforming : List Bool) (seeds : Seeds) (roles : List Role) (qs : List Question) (ls : List LedgerState) (xs : List Actor)
    (sw : ℕ → Bool) (p : ℕ) (m new : MachineState) (b : Histories) (i j : JournalState DiskState)
    (place : IsAt d conforming seeds roles qs ls xs p m i) (actors : ArePartyActors d conforming seeds roles xs)
    (ready : IsReadyCast (c d conforming seeds roles qs ls xs)) (known : p < d.graph.n)
    (good : IsGood (c d conforming seeds roles qs ls xs) (s d conforming seeds roles qs ls xs)) (k : AreJournaled d xs) where
  abbrev after : MachineState
  after = next_machine sw m (next_due m) (histories ls)

  abbrev called : Histories
  called = next_book sw m (next_due m) (histories ls)

  after_signed : HaveSigned d called (set xs p (Conforming after j))
  after_signed =
      have_signed d conforming seeds roles (state d qs (set xs p (Conforming after j)) called) (set xs p (Conforming after j))
      (actor_set d conforming seeds roles xs p (Conforming after j) actors place.below (owner_after place.is))
      (subst (IsGood (c d conforming seeds roles qs ls xs)) (sym (acted d conforming seeds roles qs ls xs sw p m after i j called place refl refl))
      (steps_on_are_good sw (c d conforming seeds roles qs ls xs) (s d conforming seeds roles qs ls xs) (Act p) ready known good)) refl
    where
      same : (o : Option Action) → IsSameOwner m (next_machine sw m o (histories ls))
      same None = record { deal = refl; me = refl; seed = refl }
      same (Some x) = record { deal = refl; me = refl; seed = refl }

      owner_after : IsPartyActor d (get_or conforming p false) (get_or seeds p None) (get_or roles p kinds.Manual) p (Conforming m i)
          → IsPartyActor d (get_or conforming p false) (get_or seeds p None) (get_or roles p kinds.Manual) p (Conforming after j)
      owner_after is =
          owned d (get_or conforming p false) (get_or seeds p None) (get_or roles p kinds.Manual) p m after i j (same (next_due m)) is

  here_signed : IsSigned d p called after.signed
  here_signed =
      after_signed p (Conforming after j) (subst (λ n. p < n) (sym (length-set xs p (Conforming after j))) place.below)
      (sym (get_or-set_same xs p (Conforming after j) (Conforming after j) place.below))

  made_disks : (b ≡ called) × (new.signed ≡ after.signed) × ShowsAll new.signed j.disk.held → HaveDisks d b (set xs p (Conforming new j))
  made_disks e =
      subst (λ (h : Histories). HaveDisks d h (set xs p (Conforming new j))) (sym e.0)
      (disks_set d called xs p new j k (others_signed d called xs p (Conforming after j) after_signed) place.below
      (between_disk d p called new.signed new.signed j.disk.held (exact_between new.signed new.signed j.disk.held refl e.2)
      (subst (λ (l : List (Option Hashkey)). IsSigned d p called l) (sym e.1) here_signed)))

  pub stopped_disks : {A E : Type 0} (r : Result A E) → OnErr r (IsDiskDuringSigning m.signed new.signed j.disk.held)
      → OnErr r ((b ≡ histories ls) ⊎ ((b ≡ called) × (new.signed ≡ after.signed) × ShowsAll new.signed j.disk.held))
      → OnErr r (HaveDisks d b (set xs p (Conforming new j)))
  stopped_disks (Ok x) between made = tt
  stopped_disks (Err e) between (inl is) =
      subst (λ (h : Histories). HaveDisks d h (set xs p (Conforming new j))) (sym is)
      (crashed_disks d conforming seeds roles qs ls xs p m new i j place actors good k between)
  stopped_disks (Err e) between (inr is) = made_disks is

pub all_disks : (w : Inside) → WorldHolds w → HaveDisks w.deal (histories w.ledgers.items) w.actors.items
all_disks w k = go w.stopped refl
  where
    go : (b : Bool) → w.stopped ≡ b → HaveDisks w.deal (histories w.ledgers.items) w.actors.items
    go true e = k.disks e
    go false e =
        disks_stay w.deal (histories w.ledgers.items) w.actors.items (k.journals e)
        (have_signed w.deal w.conforming w.seeds w.roles (inside_run_state w) w.actors.items k.actors (k.good e) refl)

-- where the world isn't stopped, memory didn't run out
pub ok_unless : {A E : Type 0} {P : Type 0} (r : Result A E) (stopped : Bool) → stopped ≡ is_err r → stopped ≡ false → OnOk r P → P
ok_unless (Ok x) stopped is on h = h
ok_unless (Err e) stopped is on h = absurd (false≢true (sym on ∙ is))
