-- What a party waits for that has nothing to do.
use Rattle.std.specs.Prelude.{◌≡◌, ℕ, ◌≤◌, Bool, true, false, not, ◌&&◌, List, [], ◌∷◌, ◌++◌, map, filter, set}
use Rattle.std.specs.Prelude.{Option, Some, None, is_some, is_none}
use Rattle.std.specs.List.{list_all}
use Rattle.swap_base.specs.Lists.{IsElement}
use Rattle.swap_digraph.specs.declared.deal.Deal.{Deal}
use Rattle.swap_digraph.specs.Graph.{leaving}
use Rattle.hashkey_path.specs.declared.hashkey.Hashkey.{Hashkey}
use Rattle.escrow_core.specs.Terms.{least}
use Rattle.ledger_core.specs.declared.entry.What.{What}
use Rattle.ledger_core.specs.declared.entry.What.TheVariants.{Call as Made, Tick}
use Rattle.ledger_core.specs.declared.entry.Entry.{Entry}
use Rattle.ledger_core.specs.History.{height, published, settled}
use Rattle.ledger_core.specs.Book.{Histories, history}
use Rattle.swap_rules.specs.Party.{is_triggered, least_expiry}
use Rattle.swap_rules.specs.Due.{Wallet, due, has_called, is_refunding}

-- an entry is a tick
abbrev pub is_ticking : What → Bool
is_ticking (Made c) = false
is_ticking (Tick k) = true

-- all of these entries are ticks
abbrev pub are_ticks : List Entry → Bool
are_ticks more = list_all (λ e. is_ticking e.what) more

-- v, which arc a leaves, waits for a refund there: the arc carries an accepted publish, is neither
-- settled nor triggered, and v has no refund entry there
abbrev pub is_waiting : Deal → ℕ → Histories → ℕ → Bool
is_waiting d v k a =
    is_some (published (history k a)) && is_none (settled (history k a)) && not (is_triggered d k a) && not (has_called v is_refunding (history k a))

-- the least of the numbers, none where there are none
abbrev pub least_number : List ℕ → Option ℕ
least_number [] = None
least_number (n ∷ ns) = Some (least (n ∷ ns))

-- the height up to which v may rest: the least of the least expiries of the leaving arcs on which
-- it waits for a refund, none where it waits nowhere
abbrev pub rest_deadline : Deal → ℕ → Histories → Option ℕ
rest_deadline d v k = least_number (map (λ a. least_expiry d a (history k a)) (filter (is_waiting d v k) (leaving d.graph v)))

-- where v waits for a refund on arc a, more entries don't bring its ledger above the least expiry
-- there
abbrev pub StaysLow : Deal → ℕ → Histories → ℕ → List Entry → Type 0
StaysLow d v k a more = IsElement a (leaving d.graph v) → is_waiting d v k a ≡ true → height (history k a ++ more) ≤ least_expiry d a (history k a)

-- where nothing is due for v, ticks of a ledger make nothing due as long as they don't pass an
-- expiry for which v waits
abbrev pub TicksMakeNothingDue : Type 0
TicksMakeNothingDue = (d : Deal) (v : ℕ) (w : Wallet) (signed : ℕ → Option Hashkey) (k : Histories) (a : ℕ) (more : List Entry)
    → are_ticks more ≡ true → due d v w signed k ≡ [] → StaysLow d v k a more → due d v w signed (set k a (history k a ++ more)) ≡ []
