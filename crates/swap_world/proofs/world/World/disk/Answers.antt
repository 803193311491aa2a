use Rattle.std.proofs.Common.{◌≡◌, ◌<◌, ℕ, List, length, Some, true, false, slice_index_or, sym, subst}
use Rattle.hashkey_path.specs.declared.hashkey.Hashkey.{Hashkey}
use Rattle.party_wallet.specs.Value.{signed_hashkey}
use Rattle.wallet_journal.specs.Held.{Leaves}
use Rattle.wallet_journal.specs.Layout.{recorded}
use Rattle.wallet_journal.specs.Memory.{DiskState}
use Rattle.swap_base.specs.Lists.{IsMoment}
use Rattle.ledger_core.specs.declared.entry.Call.TheVariants.{Unlock}
use Rattle.ledger_core.specs.declared.entry.Entry.{Entry}
use Rattle.ledger_core.specs.Book.{history}
use Rattle.swap_rules.specs.Party.{pick_call}
use Rattle.swap_run.specs.Run.{state_notes}
use Rattle.swap_world.specs.Acting.{histories}
use Rattle.swap_world.specs.Inside.{inside_run_state}
use Rattle.swap_world.specs.Journals.{IsMachineDisk, IsMachineJournal}
use Rattle.swap_world.specs.Value.{WorldState}
use Rattle.swap_world.proofs.Places.{disk_found, journal_found, shown_signed}
use Rattle.swap_world.proofs.world.World.disk.Goals as goal

pub returns-clause-calls : goal.returns-clause-calls
returns-clause-calls c =
    let i = c.self.inside in
    let known : c.args.p < i.deal.graph.n = rw (← c.self.view_is) at c.requires.party in
    let is : IsMachineDisk i.deal c.args.p (histories i.ledgers.items) (state_notes (inside_run_state i) c.args.p).signed c.in-Conforming.journal.disk.held =
    disk_found i c.self.invariant c.args.p known c.index.result.now c.index.ensures c.in-Conforming.field-0 c.in-Conforming.journal c.in-Conforming.is in
    subst (λ (w : WorldState). (a : ℕ) (past : List Entry) (e : Entry) (key : Hashkey) → IsMoment (history w.state.book a) past e
    → pick_call c.args.p e ≡ Some (Unlock key) → (b : List ℕ) → Leaves c.memory.result.now.held b → recorded b key.lock ≡ Some key) c.self.view_is
    (λ a past e key m q b left. is.calls a past e key m q b (subst (λ (d : DiskState). Leaves d.held b) c.memory.ensures.value left))

pub returns-clause-only : goal.returns-clause-only
returns-clause-only c =
    let i = c.self.inside in
    let known : c.args.p < i.deal.graph.n = rw (← c.self.view_is) at c.requires.party in
    let is : IsMachineDisk i.deal c.args.p (histories i.ledgers.items) (state_notes (inside_run_state i) c.args.p).signed c.in-Conforming.journal.disk.held =
    disk_found i c.self.invariant c.args.p known c.index.result.now c.index.ensures c.in-Conforming.field-0 c.in-Conforming.journal c.in-Conforming.is in
    subst (λ (w : WorldState). (n : ℕ) (key : Hashkey) → n < length w.deal.leaders → (b : List ℕ) → Leaves c.memory.result.now.held b
    → recorded b n ≡ Some key → signed_hashkey (state_notes w.state c.args.p).signed n ≡ Some key) c.self.view_is
    (λ n key lt b left e. is.only n key (subst (λ l. n < l) (sym is.places) lt) b (subst (λ (d : DiskState). Leaves d.held b) c.memory.ensures.value left) e)

pub returns-clause-durable : goal.returns-clause-durable
returns-clause-durable c =
    let i = c.self.inside in
    let known : c.args.p < i.deal.graph.n = rw (← c.self.view_is) at c.requires.party in
    subst (λ (w : WorldState). w.stopped ≡ false → (n : ℕ) → n < length w.deal.leaders → (b : List ℕ) → Leaves c.memory.result.now.held b
    → recorded b n ≡ signed_hashkey (state_notes w.state c.args.p).signed n) c.self.view_is (λ goes_on n lt b left.
    let conform : slice_index_or i.conforming c.args.p false ≡ true = rw (← c.self.view_is) at c.requires.conforms in
    let is : IsMachineJournal i.deal c.args.p (state_notes (inside_run_state i) c.args.p).signed c.in-Conforming.journal =
    journal_found i c.self.invariant c.args.p known c.index.result.now c.index.ensures c.in-Conforming.field-0 c.in-Conforming.journal c.in-Conforming.is goes_on in
    shown_signed i c.self.invariant goes_on c.args.p known conform c.in-Conforming.journal is n lt b
    (subst (λ (d : DiskState). Leaves d.held b) c.memory.ensures.value left))
