-- The history of one ledger: what was published, opened and settled, the balances, and the table of
-- replies.
use Rattle.std.specs.Prelude.{◌≡◌, ◌≢◌, ℕ, ◌+◌, ◌-◌, ◌≤◌, Bool, true, false, not, ◌&&◌, ◌||◌, ◌==◌, nat_lt, nat_le, IsTrue, List, [], ◌∷◌, length}
use Rattle.std.specs.Prelude.{count_by, sum_by, fold, Option, Some, None, is_some, is_none, if◌then◌else◌}
use Rattle.std.specs.List.{list_all, AllByRecursion}
use Rattle.swap_base.specs.Lists.{first_given_answer, Moment, moments}
use Rattle.swap_digraph.specs.declared.deal.Deal.{Deal}
use Rattle.swap_digraph.specs.Deal.{party, amount, path_limit, touches}
use Rattle.hashkey_path.specs.declared.hashkey.Hashkey.{Hashkey}
use Rattle.escrow_core.specs.declared.terms.Terms.{Terms}
use Rattle.escrow_core.specs.declared.reply.Reply.{Reply}
use Rattle.escrow_core.specs.declared.reply.Reply.TheVariants.{Accepted, NotParty, NoContract, AlreadyPublished, NoFunds, SenderFull, ClockFull}
use Rattle.escrow_core.specs.Table.{first_row, are_open, unlock_rows, claim_rows, refund_rows}
use Rattle.ledger_core.specs.declared.entry.Call.{Call}
use Rattle.ledger_core.specs.declared.entry.Call.TheVariants.{Publish, Unlock, Claim, Refund, Transfer}
use Rattle.ledger_core.specs.declared.entry.Sender.{Sender}
use Rattle.ledger_core.specs.declared.entry.Sender.TheVariants.{Party, Clock}
use Rattle.ledger_core.specs.declared.entry.What.{What}
use Rattle.ledger_core.specs.declared.entry.What.TheVariants.{Call as Made, Tick}
use Rattle.ledger_core.specs.declared.entry.Entry.{Entry}
use Rattle.ledger_core.specs.declared.accounts.Accounts.{Accounts}
use Rattle.ledger_core.specs.declared.facts.Settlement.{Settlement}
use Rattle.ledger_core.specs.declared.facts.Settlement.TheVariants.{Claimed, Refunded}

-- What stands in a list of entries.

abbrev pub entry_ticks : What → ℕ
entry_ticks (Made c) = 0
entry_ticks (Tick k) = k

-- the sum of its ticks
abbrev pub height : List Entry → ℕ
height h = sum_by (λ e. entry_ticks e.what) h

-- the call that an entry is, whatever its reply
abbrev pub made_call : What → Option Call
made_call (Made c) = Some c
made_call (Tick k) = None

-- the call that an entry is, where it was accepted
abbrev pub accepted_call : What → Reply → Option Call
accepted_call (Made c) Accepted = Some c
accepted_call _ _ = None

abbrev pub accepted : Entry → Option Call
accepted e = accepted_call e.what e.reply

-- an accepted publish
pub record Publication : Type 0 where
  pub height : ℕ
  pub terms : Terms

abbrev pub publication : ℕ → Option Call → Option Publication
publication t (Some (Publish terms)) = Some (record { height = t; terms = terms })
publication t _ = None

-- its one accepted publish
abbrev pub published : List Entry → Option Publication
published h = first_given_answer (λ e. publication e.height (accepted e)) h

-- an accepted unlock
pub record Opening : Type 0 where
  pub height : ℕ
  pub key : Hashkey

abbrev pub opening : ℕ → ℕ → Option Call → Option Opening
opening i t (Some (Unlock key)) = if key.lock == i then Some (record { height = t; key = key }) else None
opening i t _ = None

-- the accepted unlock for lock i
abbrev pub opened : List Entry → ℕ → Option Opening
opened h i = first_given_answer (λ e. opening i e.height (accepted e)) h

abbrev pub settling : Option Call → Option Settlement
settling (Some Claim) = Some Claimed
settling (Some Refund) = Some Refunded
settling _ = None

-- its accepted claim or refund
abbrev pub settled : List Entry → Option Settlement
settled h = first_given_answer (λ e. settling (accepted e)) h

abbrev pub is_open : List Entry → ℕ → Bool
is_open h i = is_some (opened h i)

-- every lock is opened
abbrev pub triggered : Deal → List Entry → Bool
triggered d h = are_open d (is_open h)

abbrev pub no_terms : Terms
no_terms = record { locks = []; start = 0; delta = 0; bound = 0; timelock = 0; amount = 0 }

abbrev pub publication_terms : Option Publication → Terms
publication_terms None = no_terms
publication_terms (Some p) = p.terms

abbrev pub the_terms : List Entry → Terms
the_terms h = publication_terms (published h)

-- Balances: the opening ones with each accepted call applied.

abbrev pub opening_accounts : Deal → ℕ → Accounts
opening_accounts d a = record { party = amount d a; counterparty = 0; held = 0 }

-- units from one balance to another
abbrev pub transferred : Accounts → (from_party to_party : Bool) → ℕ → Accounts
transferred b true true units = b
transferred b false false units = b
transferred b true false units = record { party = b.party - units; counterparty = b.counterparty + units; held = b.held }
transferred b false true units = record { party = b.party + units; counterparty = b.counterparty - units; held = b.held }

abbrev pub is_party : Deal → ℕ → Sender → Bool
is_party d a (Party p) = p == party d a
is_party d a Clock = false

-- after an accepted call, of the arc's party p where from_party
abbrev pub moved_accounts : ℕ → Accounts → (from_party : Bool) → Option Call → Accounts
moved_accounts p b from None = b
moved_accounts p b from (Some (Publish terms)) = record { party = b.party - terms.amount; counterparty = b.counterparty; held = b.held + terms.amount }
moved_accounts p b from (Some (Unlock key)) = b
moved_accounts p b from (Some Claim) = record { party = b.party; counterparty = b.counterparty + b.held; held = 0 }
moved_accounts p b from (Some Refund) = record { party = b.party + b.held; counterparty = b.counterparty; held = 0 }
moved_accounts p b from (Some (Transfer to units)) = transferred b from (to == p) units

abbrev pub moved : Deal → ℕ → Accounts → Sender → Option Call → Accounts
moved d a b s o = moved_accounts (party d a) b (is_party d a s) o

abbrev pub accounts : Deal → ℕ → List Entry → Accounts
accounts d a h = fold (λ b e. moved d a b e.sender (accepted e)) (opening_accounts d a) h

abbrev pub balance : Deal → ℕ → List Entry → ℕ → ℕ
balance d a h p = if p == party d a then (accounts d a h).party else (accounts d a h).counterparty

-- The place of units: the published amount from the accepted publish until the accepted claim or
-- refund.
abbrev pub held : List Entry → ℕ
held h = if is_some (settled h) then 0 else (the_terms h).amount

-- The table of replies.

abbrev pub is_sender : ℕ → Sender → Bool
is_sender p (Party q) = q == p
is_sender p Clock = false

abbrev pub is_tick : Sender → Bool
is_tick (Party q) = false
is_tick Clock = true

abbrev pub is_full : List Entry → ℕ → Bool
is_full h p = nat_le 32 (count_by (λ e. is_sender p e.sender) h)

abbrev pub is_clock_full : List Entry → ℕ → Bool
is_clock_full h k = nat_le 20000 (count_by (λ e. is_tick e.sender) h) || nat_lt 1000000 (height h + k)

unfoldable pub rows : Deal → ℕ → List Entry → ℕ → Call → List (Bool × Reply)
rows d a past p (Publish terms) =
    (is_full past p, SenderFull) ∷
    (not (p == party d a), NotParty) ∷
    (is_some (published past), AlreadyPublished) ∷
    (nat_lt (balance d a past p) terms.amount, NoFunds (balance d a past p)) ∷ []
rows d a past p (Unlock key) =
    (is_full past p, SenderFull) ∷
    (is_none (published past), NoContract) ∷
    unlock_rows d a (the_terms past) (is_open past) (is_some (settled past)) (height past) p key
rows d a past p Claim =
    (is_full past p, SenderFull) ∷
    (is_none (published past), NoContract) ∷
    claim_rows d a (is_open past) (is_some (settled past)) p
rows d a past p Refund =
    (is_full past p, SenderFull) ∷
    (is_none (published past), NoContract) ∷
    refund_rows d a (the_terms past) (is_open past) (is_some (settled past)) (height past) p
rows d a past p (Transfer to units) =
    (is_full past p, SenderFull) ∷
    (nat_lt (balance d a past p) units, NoFunds (balance d a past p)) ∷ []

-- the reply to a call of p over the entries before it: the first row that applies
abbrev pub history_reply : Deal → ℕ → List Entry → ℕ → Call → Reply
history_reply d a past p c = first_row (rows d a past p c)

abbrev pub reply_to_tick : List Entry → ℕ → Reply
reply_to_tick past k = first_row ((is_clock_full past k, ClockFull) ∷ [])

-- A call that fits the deal and its arc.

abbrev pub fit : Deal → ℕ → Call → Bool
fit d a (Publish t) =
    (length t.locks == length d.leaders) && nat_le t.start 1000000 && nat_le t.delta 1000000 && nat_le t.bound 1000000 && nat_le t.timelock 1000000
    && nat_le t.amount 1000000000000
fit d a (Unlock key) =
    nat_lt key.lock (length d.leaders) && nat_le (length key.path) (path_limit d) && nat_le (length key.sigs) (path_limit d)
    && list_all (λ v. nat_lt v d.graph.n) key.path
fit d a Claim = true
fit d a Refund = true
fit d a (Transfer to units) = touches d to a && nat_le units 1000000000000

pub record IsLegalCall (d : Deal) (a : ℕ) (past : List Entry) (p : ℕ) (c : Call) (at : ℕ) (answer : Reply) : Type 0 where
  pub of_the_two : IsTrue (touches d p a)
  pub fits : IsTrue (fit d a c)
  pub height : at ≡ height past
  pub reply : answer ≡ history_reply d a past p c
  pub room : answer ≢ SenderFull

pub record IsLegalTick (past : List Entry) (k at : ℕ) (answer : Reply) : Type 0 where
  pub some : 1 ≤ k
  pub below : k ≤ 1000000
  pub height : at ≡ height past + k
  pub reply : answer ≡ reply_to_tick past k
  pub room : answer ≢ ClockFull

abbrev pub IsLegalEntry : Deal → ℕ → List Entry → Sender → What → ℕ → Reply → Type 0
IsLegalEntry d a past (Party p) (Made c) at reply = IsLegalCall d a past p c at reply
IsLegalEntry d a past Clock (Tick k) at reply = IsLegalTick past k at reply
IsLegalEntry d a past (Party p) (Tick k) at reply = ⊥
IsLegalEntry d a past Clock (Made c) at reply = ⊥

abbrev pub IsLegalMoment : Deal → ℕ → Moment Entry → Type 0
IsLegalMoment d a m = IsLegalEntry d a m.past m.now.sender m.now.what m.now.height m.now.reply

-- Every reply is the first row that applies over the prefix before it.
abbrev pub IsLegal : Deal → ℕ → List Entry → Type 0
IsLegal d a h = AllByRecursion (IsLegalMoment d a) (moments h)
