-- Several swaps whose arcs stand on shared chains with shared accounts: the history of a chain,
-- what a swap sees of it, what its accounts hold, and its replies.
use Rattle.std.specs.Prelude.{ℕ, ◌+◌, ◌-◌, ◌&&◌, ◌||◌, ◌==◌, Bool, true, false, not, nat_lt, nat_le, List, [], ◌∷◌, ◌++◌, length, map, fold}
use Rattle.std.specs.Prelude.{count_by, sum_by, slice_index_or, is_some, is_none, if◌then◌else◌}
use Rattle.std.specs.List.{list_any, flat_map, range_with_len}
use Rattle.swap_base.specs.Lists.{Moment, moments}
use Rattle.swap_digraph.specs.Deal.{amount}
use Rattle.swap_digraph.specs.Graph.{arcs}
use Rattle.escrow_core.specs.declared.reply.Reply.{Reply}
use Rattle.escrow_core.specs.declared.reply.Reply.TheVariants.{Accepted, NoFunds, ClockFull}
use Rattle.ledger_core.specs.declared.accounts.Accounts.{Accounts}
use Rattle.ledger_core.specs.declared.entry.Call.{Call}
use Rattle.ledger_core.specs.declared.entry.Entry.{Entry}
use Rattle.ledger_core.specs.History.{published, settled, held, accounts, history_reply}
use Rattle.ledger_core.specs.Ledger.{call_entry, tick_entry, is_sender_full}
use Rattle.ledger_core.specs.Book.{Histories}
use Rattle.swap_run.specs.Run.{Cast, is_clock_full_reply}
use Rattle.swap_run.specs.Called.{is_barred}
use Rattle.swap_many.specs.declared.place.Place.{Place}
use Rattle.swap_many.specs.declared.many_reply.ManyReply.{ManyReply}
use Rattle.swap_many.specs.declared.many_reply.ManyReply.TheVariants.{Plain, NotEnded, Swept, StillHeld, Unpublished}

-- What runs: the number of swaps, who takes part in each, the place of each of their arcs, and the
-- opening units of each chain's accounts.
pub record Setup : Type 0 where
  pub swaps : ℕ
  pub cast : ℕ → Cast
  pub places : List (List Place)
  pub chains : List (List ℕ)

abbrev pub nowhere : Place
nowhere = record { chain = 0; from = 0; to = 0 }

-- where arc a of swap s stands
abbrev pub place : Setup → ℕ → ℕ → Place
place m s a = slice_index_or (slice_index_or m.places s []) a nowhere

-- the chain of arc a of swap s
abbrev pub arc_chain : Setup → ℕ → ℕ → ℕ
arc_chain m s a = (place m s a).chain

-- An arc of a swap.
pub record Slot : Type 0 where
  pub swap : ℕ
  pub arc : ℕ

abbrev pub chain_slots : Setup → ℕ → List Slot
chain_slots m s = map (λ a. record { swap = s; arc = a }) (arcs (m.cast s).deal.graph)

-- every arc of every swap, in order
abbrev pub slots : Setup → List Slot
slots m = flat_map (chain_slots m) (range_with_len 0 m.swaps)

-- what f says of x at the place i, and else what it said
abbrev pub put : {A : Type 0} → (ℕ → A) → ℕ → A → ℕ → A
put f i x j = if j == i then x else f j

-- The history of a chain.

-- What is done on a chain.
pub data Deed : Type 0 where
  Ticked : (k : ℕ) → Deed
  Called : (s a p : ℕ) → Call → Deed
  Paid : (from to units : ℕ) → Deed
  Emptied : (s a : ℕ) → Deed

-- A tick, a call on a slot, a payment or a sweep, with its height and its reply.
pub record ChainEntry : Type 0 where
  pub height : ℕ
  pub deed : Deed
  pub reply : ManyReply

abbrev pub deed_heights : Deed → ℕ
deed_heights (Ticked k) = k
deed_heights _ = 0

abbrev pub is_ticked : Deed → Bool
is_ticked (Ticked k) = true
is_ticked _ = false

-- the height of a chain
abbrev pub chain_height : List ChainEntry → ℕ
chain_height h = sum_by (λ e. deed_heights e.deed) h

-- how often a chain has ticked
abbrev pub chain_ticks : List ChainEntry → ℕ
chain_ticks h = count_by (λ e. is_ticked e.deed) h

-- a chain that ticked so often and has that height takes no further tick by k
abbrev pub has_no_tick : (ticks height k : ℕ) → Bool
has_no_tick ticks height k = nat_le 20000 ticks || nat_lt 1000000 (height + k)

-- What a slot's history is: the chain's ticks and the calls on the slot, but those on a swept slot
-- that never reached its ledger.

abbrev pub ledger_reply : ManyReply → Reply
ledger_reply (Plain r) = r
ledger_reply _ = Accepted

abbrev pub entry_if_plain : ManyReply → (Reply → Entry) → List Entry
entry_if_plain (Plain r) f = f r ∷ []
entry_if_plain _ f = []

abbrev pub deed_arc_entries : (s a at : ℕ) → Deed → ManyReply → List Entry
deed_arc_entries s a at (Ticked k) r = tick_entry k at (ledger_reply r) ∷ []
deed_arc_entries s a at (Called t b p c) r = if (s == t) && (a == b) then entry_if_plain r (call_entry p at c) else []
deed_arc_entries s a at (Paid from to units) r = []
deed_arc_entries s a at (Emptied t b) r = []

-- the history of the slot of arc a of swap s
abbrev pub projection : (s a : ℕ) → List ChainEntry → List Entry
projection s a h = flat_map (λ e. deed_arc_entries s a e.height e.deed e.reply) h

abbrev pub Chains : Type 0
Chains = ℕ → List ChainEntry

-- the book of swap s: the history of each of its slots
abbrev pub book : Setup → Chains → ℕ → Histories
book m h s = map (λ a. projection s a (h (arc_chain m s a))) (arcs (m.cast s).deal.graph)

-- The accounts of a chain.

-- the sum of f over every arc of every swap
abbrev pub sum_over_arcs : Setup → (ℕ → ℕ → ℕ) → ℕ
sum_over_arcs m f = sum_by (λ s. sum_by (f s) (arcs (m.cast s).deal.graph)) (range_with_len 0 m.swaps)

-- what account x of chain i pays for arc a of swap s
abbrev pub slot_funding : Setup → (i x s a : ℕ) → ℕ
slot_funding m i x s a = if arc_chain m s a == i then (if x == (place m s a).from then amount (m.cast s).deal a else 0) else 0

-- what is set aside from account x of chain i
abbrev pub set_aside : Setup → ℕ → ℕ → ℕ
set_aside m i x = sum_over_arcs m (slot_funding m i x)

-- the opening units of account x of chain i
abbrev pub opening_units : Setup → ℕ → ℕ → ℕ
opening_units m i x = slice_index_or (slice_index_or m.chains i []) x 0

-- units of each account of a chain
abbrev pub Units : Type 0
Units = ℕ → ℕ

-- an account has a number of units more
abbrev pub plus : Units → ℕ → ℕ → Units
plus f x units = put f x (f x + units)

-- units from one account to another
abbrev pub paid : Units → (from to units : ℕ) → Units
paid f from to units = plus (put f from (f from - units)) to units

-- what is left of the arc's balances goes to the accounts of its two parties
abbrev pub returned : Units → Place → Accounts → Units
returned f at b = plus (plus f at.from b.party) at.to b.counterparty

abbrev pub is_accepted_deed : ManyReply → Bool
is_accepted_deed (Plain Accepted) = true
is_accepted_deed _ = false

-- what an accepted deed does to the free accounts of its chain
abbrev pub freed_accounts : Setup → List ChainEntry → Deed → Units → Units
freed_accounts m past (Ticked k) f = f
freed_accounts m past (Called s a p c) f = f
freed_accounts m past (Paid from to units) f = paid f from to units
freed_accounts m past (Emptied s a) f = returned f (place m s a) (accounts (m.cast s).deal a (projection s a past))

abbrev pub freed : Setup → Units → Moment ChainEntry → Units
freed m f z = if is_accepted_deed z.now.reply then freed_accounts m z.past z.now.deed f else f

-- what is free before anything is done on chain i
abbrev pub first_free : Setup → ℕ → Units
first_free m i x = opening_units m i x - set_aside m i x

-- the free accounts of chain i
abbrev pub free : Setup → ℕ → List ChainEntry → Units
free m i h = fold (freed m) (first_free m i) (moments h)

-- Replies.

abbrev pub empties : (s a : ℕ) → Deed → Bool
empties s a (Emptied t b) = (s == t) && (a == b)
empties s a _ = false

-- the slot of arc a of swap s is swept
abbrev pub is_swept : (s a : ℕ) → List ChainEntry → Bool
is_swept s a h = list_any (λ e. is_accepted_deed e.reply && empties s a e.deed) h

abbrev pub reply_to_call : Setup → List ChainEntry → (s a p : ℕ) → Call → ManyReply
reply_to_call m h s a p c =
    if is_barred (is_swept s a h) (projection s a h) c then Swept else Plain (history_reply (m.cast s).deal a (projection s a h) p c)

abbrev pub chain_tick_reply : (ticks height k : ℕ) → ManyReply
chain_tick_reply ticks height k = if has_no_tick ticks height k then Plain ClockFull else Plain Accepted

abbrev pub reply_to_payment : (have units : ℕ) → ManyReply
reply_to_payment have units = if nat_lt have units then Plain (NoFunds have) else Plain Accepted

-- the first row that applies
abbrev pub first_applying : List (Bool × ManyReply) → ManyReply
first_applying [] = Plain Accepted
first_applying (row ∷ rows) = if row.0 then row.1 else first_applying rows

-- the table of a sweep of a slot, over its chain's height, whether it is swept, and its history;
-- those of a fair finish pass over the last row
abbrev pub sweep_rows : (fair : Bool) → (horizon height : ℕ) → (swept : Bool) → List Entry → List (Bool × ManyReply)
sweep_rows fair horizon height swept past =
    (nat_lt height (horizon + 1), NotEnded (horizon + 1)) ∷
    (swept, Swept) ∷
    (is_some (published past) && is_none (settled past), StillHeld (held past)) ∷
    (not fair && is_none (published past), Unpublished) ∷ []

abbrev pub reply_to_sweep : (fair : Bool) → (horizon height : ℕ) → (swept : Bool) → List Entry → ManyReply
reply_to_sweep fair horizon height swept past = first_applying (sweep_rows fair horizon height swept past)

-- a reply of a ledger that passes the test
abbrev pub is_plain_reply : (Reply → Bool) → ManyReply → Bool
is_plain_reply test (Plain r) = test r
is_plain_reply test _ = false

-- the reply leaves no entry: to a tick where the clock is full, and to a call where the sender is
abbrev pub leaves_none : Deed → ManyReply → Bool
leaves_none (Ticked k) r = is_plain_reply is_clock_full_reply r
leaves_none (Called s a p c) r = is_plain_reply is_sender_full r
leaves_none (Paid from to units) r = false
leaves_none (Emptied s a) r = false

-- the history after an entry
abbrev pub entered : List ChainEntry → ChainEntry → List ChainEntry
entered h e = if leaves_none e.deed e.reply then h else h ++ e ∷ []

-- The place of units.

-- the sum over the accounts of chain i
abbrev pub in_accounts : Setup → ℕ → Units → ℕ
in_accounts m i f = sum_by f (range_with_len 0 (length (slice_index_or m.chains i [])))

-- both balances, unless they are swept
abbrev pub unswept : Bool → Accounts → ℕ
unswept swept b = if swept then 0 else b.party + b.counterparty

-- the units of the slot of arc a of swap s, where it stands on chain i: its balances, unless it is
-- swept, and what its contract holds
abbrev pub in_slot : Setup → ℕ → List ChainEntry → (s a : ℕ) → ℕ
in_slot m i h s a =
    if arc_chain m s a == i then unswept (is_swept s a h) (accounts (m.cast s).deal a (projection s a h)) + held (projection s a h) else 0

-- the free accounts, the slots' balances that aren't swept and the held amounts of chain i
abbrev pub placed_units : Setup → ℕ → List ChainEntry → ℕ
placed_units m i h = in_accounts m i (free m i h) + sum_over_arcs m (in_slot m i h)
