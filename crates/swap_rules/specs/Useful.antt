-- What is useful of what is due, where a call that is presented now lands at a height of at most
-- at a on the ledger of arc a: all but the calls that can only hurt the party that makes them.
use Rattle.std.specs.Prelude.{◌≡◌, ◌⊎◌, ℕ, ◌≤◌, ◌&&◌, ◌||◌, not, nat_le, nat_lt, Bool, true, false, List, [], ◌++◌, set, Option, Some, None, is_none, if◌then◌else◌}
use Rattle.std.specs.List.{list_any, list_all, flat_map}
use Rattle.swap_base.specs.Lists.{IsElement}
use Rattle.time_bounds.specs.Times as times
use Rattle.swap_digraph.specs.Graph.{leaving, entering}
use Rattle.swap_digraph.specs.Deal.{locks}
use Rattle.swap_digraph.specs.declared.deal.Deal.{Deal}
use Rattle.hashkey_path.specs.declared.hashkey.Hashkey.{Hashkey}
use Rattle.escrow_core.specs.Terms.{stated_terms, last_unlock}
use Rattle.ledger_core.specs.declared.entry.Call.TheVariants.{Publish}
use Rattle.ledger_core.specs.declared.entry.Entry.{Entry}
use Rattle.ledger_core.specs.History.{height, settled, is_open}
use Rattle.ledger_core.specs.Book.{Histories, history, IsLegalBook}
use Rattle.swap_rules.specs.Accepted.{IsAccepted}
use Rattle.swap_rules.specs.Party.{is_triggered, first_key}
use Rattle.swap_rules.specs.Due.{Wallet, Action, is_due_publish, due_key, due_arc_unlock, when_due, due_claims, due_refunds, due}
use Rattle.swap_rules.specs.Rest.{are_ticks, StaysLow}
use Rattle.swap_rules.specs.Rounds.{IsNear}

-- a publish on arc a that is presented now lands by the height by which contracts open
abbrev pub opens_in_time : Deal → (ℕ → ℕ) → ℕ → Bool
opens_in_time d at a = nat_le (at a) (times.opening_deadline d.start d.delta d.bound)

-- the contract of arc a would accept the hashkey: it isn't settled, and the call lands at most at
-- the last height of the hashkey
abbrev pub accepts : Deal → (ℕ → ℕ) → Histories → Option Hashkey → ℕ → Bool
accepts d at k None a = true
accepts d at k (Some key) a = is_none (settled (history k a)) && nat_le (at a) (last_unlock d.mode (stated_terms d a) key)

-- lock i of arc a is open, or would be opened by the hashkey
abbrev pub takes : Deal → (ℕ → ℕ) → Histories → ℕ → Option Hashkey → ℕ → Bool
takes d at k i key a = is_open (history k a) i || accepts d at k key a

-- an arc that leaves v is triggered over what is known
abbrev pub has_lost : Deal → Histories → ℕ → Bool
has_lost d k v = list_any (is_triggered d k) (leaving d.graph v)

-- the height is above the last one of the hashkey, if any, on arc a
abbrev pub is_past : Deal → ℕ → Option Hashkey → ℕ → Bool
is_past d a None n = false
is_past d a (Some key) n = nat_lt (last_unlock d.mode (stated_terms d a) key) n

-- lock l of arc a is missed for good: it is closed, and its ledger as it is known is above the last
-- height of the hashkey that v signed for it
abbrev pub is_missed : Deal → Histories → (ℕ → Option Hashkey) → ℕ → ℕ → Bool
is_missed d k signed a l = not (is_open (history k a) l) && is_past d a (signed l) (height (history k a))

-- a lock of an arc that enters v is missed
abbrev pub has_missed : Deal → ℕ → (ℕ → Option Hashkey) → Histories → Bool
has_missed d v signed k = list_any (λ a. list_any (is_missed d k signed a) (locks d)) (entering d.graph v)

-- v had better not present this hashkey for lock i. It has presented none for that lock, it has
-- lost nothing, and an arc that enters v wouldn't take the hashkey, or has missed a lock.
abbrev pub is_withheld : Deal → ℕ → (ℕ → ℕ) → (ℕ → Option Hashkey) → Histories → ℕ → Option Hashkey → Bool
is_withheld d v at signed k i key =
    is_none (first_key k v i) && not (has_lost d k v) && (has_missed d v signed k || not (list_all (takes d at k i key) (entering d.graph v)))

-- the unlock for lock i that is due on arc a, where the arc takes its hashkey
abbrev pub timely_unlock : Deal → ℕ → (ℕ → ℕ) → Wallet → Option Hashkey → Histories → ℕ → ℕ → List Action
timely_unlock d v at w signed k i a = if takes d at k i (due_key d v w signed k i) a then due_arc_unlock d v w signed k i a else []

-- the timely unlocks for lock i, by entering arc; none where it is withheld
abbrev pub pressing_unlocks : Deal → ℕ → (ℕ → ℕ) → Wallet → (ℕ → Option Hashkey) → Histories → ℕ → List Action
pressing_unlocks d v at w signed k i =
    if is_withheld d v at signed k i (due_key d v w (signed i) k i) then [] else flat_map (timely_unlock d v at w (signed i) k i) (entering d.graph v)

-- what presses: the timely unlocks, and the claims and refunds that are due
unfoldable pub pressing : Deal → ℕ → (ℕ → ℕ) → Wallet → (ℕ → Option Hashkey) → Histories → List Action
pressing d v at w signed k = flat_map (pressing_unlocks d v at w signed k) (locks d) ++ due_claims d v k ++ due_refunds d v k

-- the publishes that are due and still open in time, by leaving arc
abbrev pub useful_publishes : Deal → ℕ → (ℕ → ℕ) → Histories → List Action
useful_publishes d v at k = flat_map (λ a. when_due (is_due_publish d v k a && opens_in_time d at a) a (Publish (stated_terms d a))) (leaving d.graph v)

-- the unlocks that are due, timely and not withheld, by lock and entering arc
abbrev pub useful_unlocks : Deal → ℕ → (ℕ → ℕ) → Wallet → (ℕ → Option Hashkey) → Histories → List Action
useful_unlocks d v at w signed k = flat_map (pressing_unlocks d v at w signed k) (locks d)

-- all that is useful to v, in the order of what is due
unfoldable pub useful : Deal → ℕ → (ℕ → ℕ) → Wallet → (ℕ → Option Hashkey) → Histories → List Action
useful d v at w signed k = useful_publishes d v at k ++ useful_unlocks d v at w signed k ++ due_claims d v k ++ due_refunds d v k

-- Why a due call can only hurt its party: it is a publish that may land too late to open, or an
-- unlock that its contract may refuse, or one with the hashkey of a withheld lock.
pub data IsHarmful (d : Deal) (v : ℕ) (at : ℕ → ℕ) (w : Wallet) (signed : ℕ → Option Hashkey) (k : Histories) (x : Action) : Type 0 where
  PublishesLate : x.call ≡ Publish (stated_terms d x.arc) → opens_in_time d at x.arc ≡ false → IsHarmful d v at w signed k x
  UnlocksLate : (i a : ℕ) → IsElement x (due_arc_unlock d v w (signed i) k i a) → takes d at k i (due_key d v w (signed i) k i) a ≡ false
      → IsHarmful d v at w signed k x
  RevealsLate : (i : ℕ) → IsElement x (flat_map (due_arc_unlock d v w (signed i) k i) (entering d.graph v))
      → is_withheld d v at signed k i (due_key d v w (signed i) k i) ≡ true → IsHarmful d v at w signed k x

-- all that is useful is due
abbrev pub UsefulIsDue : Type 0
UsefulIsDue =
    (d : Deal) (v : ℕ) (at : ℕ → ℕ) (w : Wallet) (signed : ℕ → Option Hashkey) (k : Histories) (x : Action) → IsElement x (useful d v at w signed k)
    → IsElement x (due d v w signed k)

-- what is due and not useful can only hurt
abbrev pub OnlyHarmIsLeftOut : Type 0
OnlyHarmIsLeftOut =
    (d : Deal) (v : ℕ) (at : ℕ → ℕ) (w : Wallet) (signed : ℕ → Option Hashkey) (k : Histories) (x : Action) → IsElement x (due d v w signed k)
    → IsElement x (useful d v at w signed k) ⊎ IsHarmful d v at w signed k x

-- as long as all that is presented lands by the height by which contracts open, all that is due is
-- useful
abbrev pub EarlyIsUseful : Type 0
EarlyIsUseful =
    (d : Deal) (v : ℕ) (at : ℕ → ℕ) (w : Wallet) (signed : ℕ → Option Hashkey) (k : Histories) → IsAccepted d → IsLegalBook d k
    → ((a : ℕ) → IsNear d v a → height (history k a) ≤ at a) → ((a : ℕ) → IsNear d v a → opens_in_time d at a ≡ true)
    → useful d v at w signed k ≡ due d v w signed k

-- where nothing is useful nothing presses
abbrev pub NothingUsefulPresses : Type 0
NothingUsefulPresses =
    (d : Deal) (v : ℕ) (at : ℕ → ℕ) (w : Wallet) (signed : ℕ → Option Hashkey) (k : Histories) → useful d v at w signed k ≡ []
    → pressing d v at w signed k ≡ []

-- where nothing is useful to v, ticks of a ledger make nothing useful as long as they don't pass an
-- expiry for which v waits, though calls land higher then
abbrev pub TicksMakeNothingUseful : Type 0
TicksMakeNothingUseful =
    (d : Deal) (v : ℕ) (at later : ℕ → ℕ) (w : Wallet) (signed : ℕ → Option Hashkey) (k : Histories) (a : ℕ) (more : List Entry)
    → are_ticks more ≡ true → ((c : ℕ) → at c ≤ later c) → useful d v at w signed k ≡ [] → StaysLow d v k a more
    → useful d v later w signed (set k a (history k a ++ more)) ≡ []

-- calls that land higher make nothing useful that wasn't
abbrev pub HigherIsLess : Type 0
HigherIsLess =
    (d : Deal) (v : ℕ) (at later : ℕ → ℕ) (w : Wallet) (signed : ℕ → Option Hashkey) (k : Histories) (x : Action) → ((c : ℕ) → at c ≤ later c)
    → IsElement x (useful d v later w signed k) → IsElement x (useful d v at w signed k)

-- Each unlock that is due is useful where its arc takes the hashkey, once v has lost an arc, or has
-- presented a hashkey for the lock: to be paid in part is better than nothing.
abbrev pub TakenIsUseful : Type 0
TakenIsUseful =
    (d : Deal) (v : ℕ) (at : ℕ → ℕ) (w : Wallet) (signed : ℕ → Option Hashkey) (k : Histories) (i a : ℕ) (x : Action) → IsElement i (locks d)
    → IsElement a (entering d.graph v) → IsElement x (due_arc_unlock d v w (signed i) k i a) → takes d at k i (due_key d v w (signed i) k i) a ≡ true
    → (has_lost d k v ≡ true) ⊎ (is_none (first_key k v i) ≡ false) → IsElement x (useful d v at w signed k)
