-- What is told of a history to one party: everything but noise, which is the refused calls of
-- others, and their transfers.
use Rattle.std.specs.Prelude.{◌≡◌, ◌⊎◌, ℕ, suc, ◌+◌, ◌<◌, ◌≤◌, Bool, true, false, IsTrue, not, ◌&&◌, ◌||◌, List, [], ◌∷◌, count_by, drop, filter, length}
use Rattle.std.specs.Prelude.{map, Option, Some, None, is_some, if◌then◌else◌}
use Rattle.std.specs.List.{AllByRecursion}
use Rattle.swap_base.specs.Lists.{IsElement, IsMoment, Moment, moments}
use Rattle.swap_digraph.specs.declared.deal.Deal.{Deal}
use Rattle.swap_digraph.specs.Graph.{leaving, entering, is_listed}
use Rattle.swap_digraph.specs.Deal.{touches}
use Rattle.escrow_core.specs.declared.reply.Reply.{Reply}
use Rattle.escrow_core.specs.declared.reply.Reply.TheVariants.{Accepted}
use Rattle.escrow_core.specs.Table.{first_row}
use Rattle.ledger_core.specs.declared.entry.Call.{Call}
use Rattle.ledger_core.specs.declared.entry.Call.TheVariants.{Publish, Unlock, Claim, Refund, Transfer}
use Rattle.ledger_core.specs.declared.entry.Sender.{Sender}
use Rattle.ledger_core.specs.declared.entry.Sender.TheVariants.{Party, Clock}
use Rattle.ledger_core.specs.declared.entry.What.{What}
use Rattle.ledger_core.specs.declared.entry.What.TheVariants.{Call as Made, Tick}
use Rattle.ledger_core.specs.declared.entry.Entry.{Entry}
use Rattle.ledger_core.specs.History.{entry_ticks, height, accepted, accounts, published, opened, settled, is_sender, is_party, fit, rows}
use Rattle.ledger_core.specs.Book.{Histories, history}
use Rattle.swap_rules.specs.Party.{is_arc_correct, pick_call}
use Rattle.swap_rules.specs.Due.{has_called}
use Rattle.swap_rules.specs.Rest.{is_ticking}

-- an accepted call is one of the contract: a publish, an unlock, a claim or a refund, and no
-- transfer
abbrev pub is_of_contract : Option Call → Bool
is_of_contract (Some (Publish t)) = true
is_of_contract (Some (Unlock key)) = true
is_of_contract (Some Claim) = true
is_of_contract (Some Refund) = true
is_of_contract (Some (Transfer to units)) = false
is_of_contract None = false

-- an entry is told to v: each tick, each call of v, and each accepted call of the contract
abbrev pub is_told : ℕ → Entry → Bool
is_told v e = is_ticking e.what || is_sender v e.sender || is_of_contract (accepted e)

-- a history as it is told to v
abbrev pub telling : ℕ → List Entry → List Entry
telling v h = filter (is_told v) h

-- a book as it is told to v
abbrev pub tellings : ℕ → Histories → Histories
tellings v b = map (telling v) b

-- Two lists of entries say the same to v: all that its due calls go by.
pub record SaysTheSame (v : ℕ) (k h : List Entry) : Type 0 where
  pub height : height k ≡ height h
  pub published : published k ≡ published h
  pub opened : (i : ℕ) → opened k i ≡ opened h i
  pub settled : settled k ≡ settled h
  pub calls : (test : Option Call → Bool) → test None ≡ false → has_called v test k ≡ has_called v test h

-- Two books say the same to v, arc by arc.
abbrev pub SayTheSame : ℕ → Histories → Histories → Type 0
SayTheSame v k h = (a : ℕ) → SaysTheSame v (history k a) (history h a)

-- Two lists of entries of an arc that doesn't leave v, with the same calls of v. Neither has an
-- accepted publish of the correct terms.
pub record AreUseless (d : Deal) (v a : ℕ) (k h : List Entry) : Type 0 where
  pub enters : IsElement a (leaving d.graph v) → ⊥
  pub one : is_arc_correct d a (published k) ≡ false
  pub other : is_arc_correct d a (published h) ≡ false
  pub calls : (test : Option Call → Bool) → test None ≡ false → has_called v test k ≡ has_called v test h

-- two books say enough to v: of a contract on an arc that enters it whose terms are wrong nothing
-- need be said
abbrev pub SayEnough : Deal → ℕ → Histories → Histories → Type 0
SayEnough d v k h = (a : ℕ) → SaysTheSame v (history k a) (history h a) ⊎ AreUseless d v a (history k a) (history h a)

-- Arcs whose ticks are all that a party need be told.

-- arc a is useless to v: it enters v and doesn't leave it, no publish of the correct terms was
-- accepted there, and v made no call there
abbrev pub is_useless : Deal → ℕ → ℕ → List Entry → Bool
is_useless d v a h =
    is_listed a (entering d.graph v) && not (is_listed a (leaving d.graph v)) && not (is_arc_correct d a (published h)) && not (has_called v is_some h)

-- whether v needs an entry: on a useless arc each tick and each call of v, though v made none
-- there; on another arc each entry that is told
abbrev pub is_needed : (useless : Bool) → ℕ → Entry → Bool
is_needed true v e = is_ticking e.what || is_sender v e.sender
is_needed false v e = is_told v e

-- the history of arc a, as far as v needs it
abbrev pub needed_history : Deal → ℕ → ℕ → List Entry → List Entry
needed_history d v a h = filter (is_needed (is_useless d v a h) v) h

-- of each arc's history the entries that pass the arc's test
abbrev pub parts : (ℕ → Entry → Bool) → Histories → Histories
parts test [] = []
parts test (h ∷ b) = filter (test 0) h ∷ parts (λ a. test (suc a)) b

-- the entries that v needs of each arc, where the book ends like this
abbrev pub needs : Deal → ℕ → Histories → ℕ → Entry → Bool
needs d v b a = is_needed (is_useless d v a (history b a)) v

-- a book, as far as v needs it
abbrev pub all_needed : Deal → ℕ → Histories → Histories
all_needed d v b = parts (needs d v b) b

-- Histories of a chain that has no limits, neither of a sender's entries nor of the clock's.

-- the reply by the table without its first row, the row of a full sender
abbrev pub reply_without_limit : Deal → ℕ → List Entry → ℕ → Call → Reply
reply_without_limit d a past p c = first_row (drop 1 (rows d a past p c))

pub record IsTrueCall (d : Deal) (a : ℕ) (past : List Entry) (p : ℕ) (c : Call) (at : ℕ) (answer : Reply) : Type 0 where
  pub of_the_two : IsTrue (touches d p a)
  pub fits : IsTrue (fit d a c)
  pub height : at ≡ height past
  pub reply : answer ≡ reply_without_limit d a past p c

pub record IsTrueTick (past : List Entry) (k at : ℕ) (answer : Reply) : Type 0 where
  pub some : 1 ≤ k
  pub height : at ≡ height past + k
  pub reply : answer ≡ Accepted

abbrev pub IsTrueEntry : Deal → ℕ → List Entry → Sender → What → ℕ → Reply → Type 0
IsTrueEntry d a past (Party p) (Made c) at reply = IsTrueCall d a past p c at reply
IsTrueEntry d a past Clock (Tick k) at reply = IsTrueTick past k at reply
IsTrueEntry d a past (Party p) (Tick k) at reply = ⊥
IsTrueEntry d a past Clock (Made c) at reply = ⊥

-- what a sender has: the arc's party its balance, and anybody else the counterparty's
abbrev pub purse : Deal → ℕ → List Entry → Sender → ℕ
purse d a past s = if is_party d a s then (accounts d a past).party else (accounts d a past).counterparty

-- an accepted transfer moves no more than its sender has
abbrev pub IsPaid : Deal → ℕ → List Entry → Sender → Option Call → Type 0
IsPaid d a past s (Some (Transfer to units)) = units ≤ purse d a past s
IsPaid d a past s (Some (Publish t)) = Unit {0}
IsPaid d a past s (Some (Unlock key)) = Unit {0}
IsPaid d a past s (Some Claim) = Unit {0}
IsPaid d a past s (Some Refund) = Unit {0}
IsPaid d a past s None = Unit {0}

-- What holds at each moment: what is told keeps the table, but for its first row. Noise only has to
-- be payable where it is a transfer. Its sender, its call, its height and its reply are free.
pub record IsTrueMoment (d : Deal) (v a : ℕ) (m : Moment Entry) : Type 0 where
  pub told : is_told v m.now ≡ true → IsTrueEntry d a m.past m.now.sender m.now.what m.now.height m.now.reply
  pub paid : IsPaid d a m.past m.now.sender (accepted m.now)

-- a history of a chain without limits, with any noise
abbrev pub IsChain : Deal → ℕ → ℕ → List Entry → Type 0
IsChain d v a h = AllByRecursion (IsTrueMoment d v a) (moments h)

-- one history of a chain without limits per arc, with any noise
pub record IsChainBook (d : Deal) (v : ℕ) (b : Histories) : Type 0 where
  pub one_each : length b ≡ length d.graph.arcs
  pub chain : (a : ℕ) → a < length b → IsChain d v a (history b a)

-- each tick is one that the clock makes
abbrev pub IsTrueClock : Deal → ℕ → Moment Entry → Type 0
IsTrueClock d a m = is_ticking m.now.what ≡ true → IsTrueEntry d a m.past m.now.sender m.now.what m.now.height m.now.reply

abbrev pub HasTrueClock : Deal → ℕ → List Entry → Type 0
HasTrueClock d a h = AllByRecursion (IsTrueClock d a) (moments h)

-- A history of arc a on a chain without limits, as far as v needs it. Its ticks are true. If the
-- arc isn't useless to v, all that is told is true. On a useless arc the contract is free: neither
-- its terms nor its amount nor any reply needs to fit.
pub record IsNeededChain (d : Deal) (v a : ℕ) (h : List Entry) : Type 0 where
  pub clock : HasTrueClock d a h
  pub contract : is_useless d v a h ≡ false → IsChain d v a h

-- one such history per arc
pub record IsNeededBook (d : Deal) (v : ℕ) (b : Histories) : Type 0 where
  pub one_each : length b ≡ length d.graph.arcs
  pub chain : (a : ℕ) → a < length b → IsNeededChain d v a (history b a)

-- the call is a transfer
abbrev pub is_transfer : Option Call → Bool
is_transfer (Some (Transfer to units)) = true
is_transfer _ = false

-- v makes no transfer in the list
abbrev pub MakesNoTransfer : ℕ → List Entry → Type 0
MakesNoTransfer v h = (past : List Entry) (e : Entry) → IsMoment h past e → is_transfer (pick_call v e) ≡ false

-- Successive ticks told as one.

-- one tick in place of two
abbrev pub as_one : Entry → Entry → Entry
as_one e f = record f { what = Tick (entry_ticks e.what + entry_ticks f.what) }

-- an entry before others, where two ticks are told as one
abbrev pub join : Entry → List Entry → List Entry
join e [] = e ∷ []
join e (f ∷ h) = if is_ticking e.what && is_ticking f.what then as_one e f ∷ h else e ∷ f ∷ h

-- the entries with successive ticks told as one
abbrev pub merged : List Entry → List Entry
merged [] = []
merged (e ∷ h) = join e (merged h)

-- how many entries are calls
abbrev pub call_count : List Entry → ℕ
call_count h = count_by (λ e. not (is_ticking e.what)) h
