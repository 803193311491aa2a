-- Who acts at a place of a world, and what is known of it while the world goes on.
use Rattle.std.proofs.Common.{◌≡◌, ℕ, ◌<◌, Bool, true, false, Result, Ok, Err, OnOk, OnErr, List, length, get_or, Option, Some, refl, sym, ap, ap₂, ◌∙◌, subst}
use Rattle.swap_digraph.specs.declared.deal.Deal.{Deal}
use Rattle.ledger_core.specs.declared.entry.Entry.{Entry}
use Rattle.ledger_core.specs.Value.{LedgerState}
use Rattle.ledger_core.specs.History.{IsLegal}
use Rattle.ledger_core.specs.Book.{history}
use Rattle.swap_rules.specs.Due.{Action}
use Rattle.swap_rules.specs.Machine.{Begins}
use Rattle.std.proofs.lemmas.Bool.{false≢true}
use Rattle.std.proofs.lemmas.List.{get_or_default}
use Rattle.swap_job.specs.declared.job.Role.{Role}
use Rattle.swap_job.specs.declared.job.Role.TheVariants as kinds
use Rattle.swap_run.specs.Run.{Notes, Plan, state_notes}
use Rattle.swap_run.specs.Shown.{IsShown}
use Rattle.party_machine.specs.Machine.{MachineState, next_due}
use Rattle.swap_world.specs.Acting.{IsMakable, histories}
use Rattle.hashkey_path.specs.declared.hashkey.Hashkey.{Hashkey}
use Rattle.party_wallet.specs.Value.{signed_hashkey}
use Rattle.wallet_journal.specs.Held.{Held, Leaves}
use Rattle.wallet_journal.specs.Layout.{recorded}
use Rattle.swap_world.specs.Inside.{inside_cast, inside_questions, inside_run_state, IsArcLedger, IsPartyActor, WorldHolds}
use Rattle.swap_world.specs.Journals.{IsJournaled, IsMachineDisk, IsMachineJournal}
use Rattle.swap_world.specs.Cast.{asks}
use Rattle.swap_world.specs.Recorded.{AreRecorded, IsPartyDisk}
use Rattle.wallet_journal.specs.Journal.{JournalState}
use Rattle.wallet_journal.specs.Memory.{DiskState}
use Rattle.swap_world.specs.Players.{Actor, CanLearnLedger, knowing_ledger}
use Rattle.swap_world.specs.declared.player.Player.TheVariants.{Conforming, Planned, Manual}
use Rattle.swap_world.specs.declared.world.World.TheInside.{Inside}
use Rattle.swap_world.proofs.Disks.{all_disks}
use Rattle.swap_world.proofs.Gone.{alone_by_role, alone_conforming, unplanned_names_none}
use Rattle.swap_world.proofs.Ledgers.{history_at}
use Rattle.swap_world.proofs.States.{IsAt, IsPlanAt, notes_at}
use Rattle.swap_world.proofs.Worlds.{placed, plan_placed, knows_each, plan_begins, shown, begins, makable}

-- party p plans n
abbrev pub IsPlanOf : Inside → ℕ → Plan → Type 0
IsPlanOf i p n = IsPlanAt i.deal i.conforming i.seeds i.roles (inside_questions i) i.ledgers.items i.actors.items p n

-- m is the machine of party p, with its journal
abbrev pub IsMachineOf : Inside → ℕ → MachineState → JournalState DiskState → Type 0
IsMachineOf i p m j = IsAt i.deal i.conforming i.seeds i.roles (inside_questions i) i.ledgers.items i.actors.items p m j

-- What was found at the place of party p.
module _ (i : Inside) (h : WorldHolds i) (p : ℕ) (known : p < i.deal.graph.n) (x : Actor) (here : x ≡ get_or i.actors.items p x) where
  pub plan_found : (n : Plan) → x ≡ Planned n → IsPlanOf i p n
  plan_found n e = plan_placed i.deal i.conforming i.seeds i.roles (inside_questions i) i.ledgers.items i.actors.items p x n h.actors known e here

  pub machine_found : (m : MachineState) (j : JournalState DiskState) → x ≡ Conforming m j → IsMachineOf i p m j
  machine_found m j e = placed i.deal i.conforming i.seeds i.roles (inside_questions i) i.ledgers.items i.actors.items p x m j h.actors known e here

  -- one that isn't planned asks no strategy
  pub alone_unplanned : ((n : Plan) → x ≡ Planned n → ⊥) → asks (inside_cast i) p ≡ false
  alone_unplanned other = go x refl
    where
      low : p < length i.actors.items
      low = subst (λ n. p < n) (sym h.actors.one_each) known

      at : (y : Actor) → x ≡ y → y ≡ get_or i.actors.items p y
      at y e = subst (λ z. z ≡ get_or i.actors.items p z) e here

      go : (y : Actor) → x ≡ y → asks (inside_cast i) p ≡ false
      go (Conforming m j) e = alone_conforming (inside_cast i) p (h.actors.each p (Conforming m j) low (at (Conforming m j) e)).0
      go (Planned n) e = absurd (other n e)
      go Manual e =
          alone_by_role (inside_cast i) p
          (unplanned_names_none (get_or i.roles p kinds.Manual) (h.actors.each p Manual low (at Manual e)).1)

  -- its disk
  pub disk_found : (m : MachineState) (j : JournalState DiskState) → x ≡ Conforming m j
      → IsMachineDisk i.deal p (histories i.ledgers.items) (state_notes (inside_run_state i) p).signed j.disk.held
  disk_found m j e =
      let at = machine_found m j e in
      subst (λ (n : Notes). IsMachineDisk i.deal p (histories i.ledgers.items) n.signed j.disk.held)
      (sym (notes_at i.deal i.conforming i.seeds i.roles (inside_questions i) i.ledgers.items i.actors.items p m j at))
      (all_disks i h p (Conforming m j) at.below at.here)

  -- its journal
  pub journal_found : (m : MachineState) (j : JournalState DiskState) → x ≡ Conforming m j → i.stopped ≡ false
      → IsMachineJournal i.deal p (state_notes (inside_run_state i) p).signed j
  journal_found m j e on =
      let at = machine_found m j e in
      subst (λ (n : Notes). IsMachineJournal i.deal p n.signed j)
      (sym (notes_at i.deal i.conforming i.seeds i.roles (inside_questions i) i.ledgers.items i.actors.items p m j at))
      (h.journals on p (Conforming m j) at.below at.here)

-- What a journal shows is what its party signed.
pub shown_signed : (i : Inside) → WorldHolds i → i.stopped ≡ false → (p : ℕ) → p < i.deal.graph.n → get_or i.conforming p false ≡ true
    → (j : JournalState DiskState) → IsMachineJournal i.deal p (state_notes (inside_run_state i) p).signed j
    → (n : ℕ) → n < length i.deal.leaders → (c : List ℕ) → Leaves j.disk.held c
    → recorded c n ≡ signed_hashkey (state_notes (inside_run_state i) p).signed n
shown_signed i h on p known conform j is n lt c left =
    let many : length j.signed ≡ length i.deal.leaders = ap (λ (l : List (Option Hashkey)). length l) is.has ∙ ((h.good on).notes p known conform).places in
    is.shows n (subst (λ l. n < l) (sym many) lt) c left ∙ ap (λ (l : List (Option Hashkey)). signed_hashkey l n) is.has

-- each conforming party has a disk on which is recorded what it presented
pub all_recorded : (i : Inside) → WorldHolds i → i.stopped ≡ false → AreRecorded (inside_cast i) (inside_run_state i)
all_recorded i h on p known conform = go (get_or i.actors.items p Manual) (get_or_default i.actors.items p Manual (get_or i.actors.items p Manual) low)
  where
    low : p < length i.actors.items
    low = subst (λ n. p < n) (sym h.actors.one_each) known

    go : (x : Actor) → x ≡ get_or i.actors.items p x → (d : Held) × IsPartyDisk i.deal (inside_run_state i) p d
    go (Conforming m j) here =
        let journal = journal_found i h p known (Conforming m j) here m j refl on in (
          j.disk.held,
          record {
            read = journal.read;
            calls = (disk_found i h p known (Conforming m j) here m j refl).calls;
            just = shown_signed i h on p known conform j journal;
          },
        )
    go (Planned n) here = absurd (false≢true (sym (h.actors.each p (Planned n) low here).0 ∙ conform))
    go Manual here = absurd (false≢true (sym (h.actors.each p Manual low here).0 ∙ conform))

-- What is known of a party that plans.
module _ (i : Inside) (h : WorldHolds i) (goes_on : i.stopped ≡ false) (p : ℕ) (known : p < i.deal.graph.n) (n : Plan) (k : IsPlanOf i p n) where
  pub plan_each : length n.known ≡ length i.deal.graph.arcs
  plan_each = knows_each i.deal i.conforming i.seeds i.roles (inside_questions i) i.ledgers.items i.actors.items h.ready (h.good goes_on) p known n k

  pub plan_before : (a : ℕ) → Begins (history n.known a) (history (histories i.ledgers.items) a)
  plan_before a = plan_begins i.deal i.conforming i.seeds i.roles (inside_questions i) i.ledgers.items i.actors.items h.ready (h.good goes_on) p known n k a

  pub plan_shown : IsShown i.deal i.seeds p n
  plan_shown = shown i.deal i.conforming i.seeds i.roles (inside_questions i) i.ledgers.items i.actors.items h.ready (h.good goes_on) p known n k

-- What is known of a party that conforms.
module _ (i : Inside) (h : WorldHolds i) (goes_on : i.stopped ≡ false) (p : ℕ) (known : p < i.deal.graph.n) (m : MachineState)
    (j : JournalState DiskState) (k : IsMachineOf i p m j) where
  pub machine_before : (a : ℕ) → Begins (history m.known a) (history (histories i.ledgers.items) a)
  machine_before a = begins i.deal i.conforming i.seeds i.roles (inside_questions i) i.ledgers.items i.actors.items h.ready (h.good goes_on) p known m j k a

  pub machine_makable : (x : Action) → next_due m ≡ Some x → IsMakable m.deal m.me x
  machine_makable = makable i.deal i.conforming i.seeds i.roles (inside_questions i) i.ledgers.items i.actors.items h.ready (h.good goes_on) p known m j k

-- What a player may learn.
module _ (i : Inside) (h : WorldHolds i) (goes_on : i.stopped ≡ false) (p : ℕ) (known : p < i.deal.graph.n) (a : ℕ) (l : LedgerState)
    (below : a < length i.ledgers.items) (there : l ≡ get_or i.ledgers.items a l) where
  -- its ledger is the one of arc a
  is_of : IsArcLedger i.deal a l
  is_of = h.ledgers.each a l below there

  starts : (k : List Entry) → Begins k (history (histories i.ledgers.items) a) → Begins k l.history
  starts k b = subst (Begins k) (history_at i.ledgers.items a l below there) b

  pub can_learn : (x : Actor) → x ≡ get_or i.actors.items p x → CanLearnLedger x l
  can_learn (Conforming m j) here =
      let k = machine_found i h p known (Conforming m j) here m j refl in (
        is_of.deal ∙ sym k.is.1,
        subst (λ (d : Deal). IsLegal d l.arc l.history) (sym is_of.deal) (subst (λ b. IsLegal i.deal b l.history) (sym is_of.arc) is_of.legal),
        subst (λ (d : Deal). l.arc < length d.graph.arcs) (sym is_of.deal)
            (subst (λ b. b < length i.deal.graph.arcs) (sym is_of.arc) (subst (λ n. a < n) h.ledgers.one_each below)),
        subst (λ b. Begins (history m.known b) l.history) (sym is_of.arc)
            (starts (history m.known a) (machine_before i h goes_on p known m j k a)),
      )
  can_learn (Planned n) here =
      let k = plan_found i h p known (Planned n) here n refl in (
        subst (λ b. b < length n.known) (sym is_of.arc) (subst (λ z. a < z) (h.ledgers.one_each ∙ sym (plan_each i h goes_on p known n k)) below),
        subst (λ b. Begins (history n.known b) l.history) (sym is_of.arc) (starts (history n.known a) (plan_before i h goes_on p known n k a)),
      )
  can_learn Manual here = tt

  -- what it then is
  pub knows : (x : Actor) → knowing_ledger x l.arc l.history ≡ knowing_ledger x a (history (histories i.ledgers.items) a)
  knows x = ap₂ (λ (b : ℕ) (k : List Entry). knowing_ledger x b k) is_of.arc (sym (history_at i.ledgers.items a l below there))

-- it is its party's player
pub still_party : (d : Deal) (conforms : Bool) (seed : Option (List ℕ)) (role : Role) (v : ℕ) (x : Actor) (a : ℕ) (h : List Entry)
    → IsPartyActor d conforms seed role v x → IsPartyActor d conforms seed role v (knowing_ledger x a h)
still_party d conforms seed role v (Conforming m j) a h is = is
still_party d conforms seed role v (Planned n) a h is = is
still_party d conforms seed role v Manual a h is = is

-- and has its journal
pub still_journaled : (d : Deal) (v : ℕ) (x : Actor) (a : ℕ) (h : List Entry) → IsJournaled d v x → IsJournaled d v (knowing_ledger x a h)
still_journaled d v (Conforming m j) a h is = is
still_journaled d v (Planned n) a h is = tt
still_journaled d v Manual a h is = tt

-- a player that became y, or stayed
pub became : {A E : Type 0} (r : Result A E) (P : Actor → Type 0) (x y new : Actor) → OnOk r (new ≡ y) → OnErr r (new ≡ x) → P y → P x → P new
became (Ok u) P x y new ok err there here = subst P (sym ok) there
became (Err e) P x y new ok err there here = subst P (sym err) here

-- Where memory ran out, no more is asked of a world.
pub stopped_holds : (i : Inside) → WorldHolds i → WorldHolds (record i { stopped = true })
stopped_holds i h = record {
  ready = h.ready;
  ledgers = h.ledgers;
  actors = h.actors;
  askers = h.askers;
  told = h.told;
  good = λ on. absurd (cc on);
  room = λ on. absurd (cc on);
  journals = λ on. absurd (cc on);
  disks = λ on. all_disks i h;
  kept = h.kept;
}
