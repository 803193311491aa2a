-- What a ledger keeps beside its history, and what an entry leaves of it.
use Rattle.std.specs.Prelude.{◌≡◌, ◌+◌, ◌==◌, ◌≤◌, ℕ, Bool, true, false, not, nat_lt, List, [], ◌∷◌, ◌++◌, map, Option, Some, None, is_some, option_map}
use Rattle.std.specs.Prelude.{if◌then◌else◌}
use Rattle.swap_digraph.specs.declared.deal.Deal.{Deal}
use Rattle.swap_digraph.specs.Deal.{party, counterparty, amount, locks}
use Rattle.escrow_core.specs.declared.reply.Reply.{Reply}
use Rattle.escrow_core.specs.declared.reply.Reply.TheVariants.{NotParty, NoContract, AlreadyPublished, NoFunds, SenderFull}
use Rattle.escrow_core.specs.Table.{first_row, unlock_rows, claim_rows, refund_rows}
use Rattle.escrow_core.specs.Value.{ContractState, IsDealContract, is_lock_open, new_contract, with_opened, with_settled}
use Rattle.ledger_core.specs.declared.entry.Call.{Call}
use Rattle.ledger_core.specs.declared.entry.Call.TheVariants.{Publish, Unlock, Claim, Refund, Transfer}
use Rattle.ledger_core.specs.declared.entry.Sender.TheVariants.{Party, Clock}
use Rattle.ledger_core.specs.declared.entry.What.TheVariants.{Call as Made, Tick}
use Rattle.ledger_core.specs.declared.entry.Entry.{Entry}
use Rattle.ledger_core.specs.declared.accounts.Accounts.{Accounts}
use Rattle.ledger_core.specs.History.{Publication, published, opened, settled, is_open, balance, held, height, history_reply}
use Rattle.ledger_core.specs.Value.{LedgerState}

-- the entry of a call of p, at a height
abbrev pub call_entry : (p at : ℕ) → Call → Reply → Entry
call_entry p at c r = record { sender = Party p; height = at; what = Made c; reply = r }

-- the sender has no room for an entry
abbrev pub is_sender_full : Reply → Bool
is_sender_full SenderFull = true
is_sender_full _ = false

-- the history of arc a after a call of p, which leaves no entry where the sender is full
unfoldable pub after_call : Deal → ℕ → ℕ → Call → List Entry → List Entry
after_call d a p c h = if is_sender_full (history_reply d a h p c) then h else h ++ call_entry p (height h) c (history_reply d a h p c) ∷ []

-- the entry of a tick by k, with the height after it
abbrev pub tick_entry : (k at : ℕ) → Reply → Entry
tick_entry k at r = record { sender = Clock; height = at; what = Tick k; reply = r }

-- The ledger after one more entry.
pub record HasEntryAdded (old : LedgerState) (e : Entry) (new : LedgerState) : Type 0 where
  pub deal : new.deal ≡ old.deal
  pub arc : new.arc ≡ old.arc
  pub history : new.history ≡ old.history ++ e ∷ []

-- The balances, the held amount and the contract are as before.
pub record AreKept (d : Deal) (a : ℕ) (old new : List Entry) : Type 0 where
  pub balances : (p : ℕ) → balance d a new p ≡ balance d a old p
  pub held : held new ≡ held old
  pub published : published new ≡ published old
  pub opened : (i : ℕ) → opened new i ≡ opened old i
  pub settled : settled new ≡ settled old

-- The balances and the held amount add up to the amount of the arc, at every prefix.
abbrev pub AddUp : Deal → ℕ → List Entry → Type 0
AddUp d a h = (past rest : List Entry) → h ≡ past ++ rest → balance d a past (party d a) + balance d a past (counterparty d a) + held past ≡ amount d a

-- The contract that a history leaves.

abbrev pub published_contract : Deal → ℕ → List Entry → Publication → ContractState
published_contract d a h p =
    record { arc = a; from = party d a; to = counterparty d a; terms = p.terms; opened = map (is_open h) (locks d); settled = is_some (settled h) }

abbrev pub history_contract : Deal → ℕ → List Entry → Option ContractState
history_contract d a h = option_map (published_contract d a h) (published h)

-- after an accepted call
abbrev pub next_contract : Deal → ℕ → Option ContractState → Option Call → Option ContractState
next_contract d a c None = c
next_contract d a c (Some (Publish t)) = Some (new_contract d a t)
next_contract d a c (Some (Unlock key)) = option_map (λ s. with_opened s key.lock) c
next_contract d a c (Some Claim) = option_map with_settled c
next_contract d a c (Some Refund) = option_map with_settled c
next_contract d a c (Some (Transfer to units)) = c

-- A contract of arc a.
pub record IsArcContract (d : Deal) (a : ℕ) (c : ContractState) : Type 0 where
  pub arc : c.arc ≡ a
  pub kept : IsDealContract d c

abbrev pub IsHistoryContract : Deal → ℕ → Option ContractState → Type 0
IsHistoryContract d a None = Unit {0}
IsHistoryContract d a (Some c) = IsArcContract d a c

-- the rows of the contract, where there is one
abbrev pub by_contract : Option ContractState → (ContractState → List (Bool × Reply)) → Reply
by_contract None rows = NoContract
by_contract (Some c) rows = first_row (rows c)

-- the reply to a call of p whose entries aren't too many, by the contract, the height and the
-- balance of p
abbrev pub reply_by_contract : Deal → ℕ → Option ContractState → (height have p : ℕ) → Call → Reply
reply_by_contract d a o t have p (Publish terms) =
    first_row ((not (p == party d a), NotParty) ∷ (is_some o, AlreadyPublished) ∷ (nat_lt have terms.amount, NoFunds have) ∷ [])
reply_by_contract d a o t have p (Unlock key) = by_contract o (λ c. unlock_rows d a c.terms (is_lock_open c) c.settled t p key)
reply_by_contract d a o t have p Claim = by_contract o (λ c. claim_rows d a (is_lock_open c) c.settled p)
reply_by_contract d a o t have p Refund = by_contract o (λ c. refund_rows d a c.terms (is_lock_open c) c.settled t p)
reply_by_contract d a o t have p (Transfer to units) = first_row ((nat_lt have units, NoFunds have) ∷ [])

-- The sender of an accepted call has what it moves.
abbrev pub CanMove : Accounts → Bool → Option Call → Type 0
CanMove b from None = Unit {0}
CanMove b from (Some (Publish t)) = t.amount ≤ b.party
CanMove b from (Some (Unlock key)) = Unit {0}
CanMove b from (Some Claim) = Unit {0}
CanMove b from (Some Refund) = Unit {0}
CanMove b from (Some (Transfer to units)) = units ≤ (if from then b.party else b.counterparty)
