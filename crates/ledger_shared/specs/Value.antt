-- What callers see of a shared ledger and of its passes, and what is told of a call, a look, a tick
-- and the closing.
use Rattle.std.specs.Prelude.{◌≡◌, ℕ, ◌+◌, List, [], ◌∷◌, ◌++◌, filter}
use mathlib.Core.List.{IsPrefix}
use Rattle.atomic_table.specs.Seated.{TableId}
use Rattle.swap_digraph.specs.declared.deal.Deal.{Deal}
use Rattle.swap_digraph.specs.Deal.{party, counterparty}
use Rattle.escrow_core.specs.declared.reply.Reply.{Reply}
use Rattle.escrow_core.specs.declared.reply.Reply.TheVariants.{SenderFull, ClockFull}
use Rattle.ledger_core.specs.declared.entry.Call.{Call}
use Rattle.ledger_core.specs.declared.entry.Entry.{Entry}
use Rattle.ledger_core.specs.History.{height, is_sender, is_tick, history_reply, reply_to_tick}
use Rattle.ledger_core.specs.Ledger.{call_entry, tick_entry}
use Rattle.ledger_core.specs.Value.{LedgerState}

-- A shared ledger is known by its lock.
pub record SharedState : Type 0 where
  pub lock : TableId

-- The pass of a party: its ledger's arc, the history that was shared, and what the pass has seen of
-- the one history.
pub record PassState : Type 0 where
  pub lock : TableId
  pub deal : Deal
  pub arc : ℕ
  pub party : ℕ
  pub shared : List Entry
  pub seen : List Entry

-- The pass of the clock.
pub record ClockState : Type 0 where
  pub lock : TableId
  pub deal : Deal
  pub arc : ℕ
  pub shared : List Entry
  pub seen : List Entry

-- the entries of a party
abbrev pub party_made : ℕ → List Entry → List Entry
party_made p h = filter (λ e. is_sender p e.sender) h

-- the ticks of the clock
abbrev pub ticks_in_order : List Entry → List Entry
ticks_in_order h = filter (λ e. is_tick e.sender) h

-- the party's own entries of those that its pass has seen
abbrev pub mine : PassState → List Entry
mine p = party_made p.party p.seen

-- the ticks of those entries that the clock's pass has seen
abbrev pub clock_mine : ClockState → List Entry
clock_mine p = ticks_in_order p.seen

-- the pass after it has seen more
abbrev pub with_seen : PassState → List Entry → PassState
with_seen p fresh = record { lock = p.lock; deal = p.deal; arc = p.arc; party = p.party; shared = p.shared; seen = p.seen ++ fresh }

abbrev pub clock_with_seen : ClockState → List Entry → ClockState
clock_with_seen p fresh = record { lock = p.lock; deal = p.deal; arc = p.arc; shared = p.shared; seen = p.seen ++ fresh }

-- the pass of a party that has seen some of the shared history
abbrev pub party_pass : TableId → LedgerState → (p : ℕ) (seen : List Entry) → PassState
party_pass lock l p seen = record { lock = lock; deal = l.deal; arc = l.arc; party = p; shared = l.history; seen = seen }

-- the clock's pass has seen all that was shared
abbrev pub table_clock : TableId → LedgerState → ClockState
table_clock lock l = record { lock = lock; deal = l.deal; arc = l.arc; shared = l.history; seen = l.history }

-- the pass is that of the arc's party at the ledger, or of its counterparty
abbrev pub IsPartyPass : TableId → PassState → Type 0
IsPartyPass lock p = (p.lock ≡ lock) × (p.party ≡ party p.deal p.arc)

abbrev pub IsCounterpartyPass : TableId → PassState → Type 0
IsCounterpartyPass lock p = (p.lock ≡ lock) × (p.party ≡ counterparty p.deal p.arc)

-- what a call adds: its entry, or none where the sender is full
abbrev pub added_by_call : Reply → Entry → List Entry
added_by_call SenderFull e = []
added_by_call _ e = e ∷ []

-- what a tick adds: its entry, or none where the clock is full
abbrev pub added_by_tick : Reply → Entry → List Entry
added_by_tick ClockFull e = []
added_by_tick _ e = e ∷ []

-- After entries of others, which the pass hadn't seen, stands its own, with the reply of the ledger
-- at that point.
pub record HasCalled (old : PassState) (call : Call) (answer : Reply) (fresh : List Entry) : Type 0 where
  pub others : List Entry
  pub foreign : party_made old.party others ≡ []
  pub reply : answer ≡ history_reply old.deal old.arc (old.seen ++ others) old.party call
  pub entries : fresh ≡ others ++ added_by_call answer (call_entry old.party (height (old.seen ++ others)) call answer)

-- After entries of the parties, which the pass hadn't seen, stands the tick, with the reply of the
-- ledger at that point.
pub record HasTicked (old : ClockState) (k : ℕ) (answer : Reply) (new : ClockState) : Type 0 where
  pub others : List Entry
  pub foreign : ticks_in_order others ≡ []
  pub reply : answer ≡ reply_to_tick (old.seen ++ others) k
  pub entries : new ≡ clock_with_seen old (others ++ added_by_tick answer (tick_entry k (height (old.seen ++ others) + k) answer))

-- The closed ledger is the pass's ledger. Its history begins with what the pass has seen, and has
-- no other entry of the party.
pub record Closes (l : LedgerState) (p : PassState) : Type 0 where
  pub deal : l.deal ≡ p.deal
  pub arc : l.arc ≡ p.arc
  pub seen : IsPrefix p.seen l.history
  pub mine : party_made p.party l.history ≡ mine p

pub record ClosesClock (l : LedgerState) (p : ClockState) : Type 0 where
  pub deal : l.deal ≡ p.deal
  pub arc : l.arc ≡ p.arc
  pub seen : IsPrefix p.seen l.history
  pub mine : ticks_in_order l.history ≡ clock_mine p
