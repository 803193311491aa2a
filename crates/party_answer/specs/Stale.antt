-- Ledgers that are told lower than the wallet saw them: a node lags, or a ledger was left out. Such
-- a ledger may hold calls that it doesn't show.
use Rattle.std.specs.Prelude.{ℕ, ◌&&◌, ◌||◌, ◌++◌, nat_lt, Bool, true, false, List, [], ◌∷◌, filter, not, Option, Some, is_none, slice_index_or, if◌then◌else◌}
use Rattle.swap_digraph.specs.Graph.{arcs, is_listed}
use Rattle.swap_digraph.specs.declared.deal.Deal.{Deal}
use Rattle.swap_digraph.specs.Deal.{locks, touches}
use Rattle.hashkey_path.specs.declared.hashkey.Hashkey.{Hashkey}
use Rattle.ledger_core.specs.History.{height}
use Rattle.ledger_core.specs.Book.{Histories, history}
use Rattle.swap_rules.specs.Conduct.{is_publish}
use Rattle.swap_rules.specs.Due.{Action}
use Rattle.party_answer.specs.declared.unkept.Unkept.{Unkept}
use Rattle.party_answer.specs.Unkept.{unkept_locks}

-- the ledger of arc a is next to v, and is told below the greatest height at which it was seen
abbrev pub is_stale : Deal → ℕ → Histories → (seen : List ℕ) → ℕ → Bool
is_stale d v k seen a = touches d v a && nat_lt (height (history k a)) (slice_index_or seen a 0)

-- the arcs whose ledgers are stale, ascending
abbrev pub stale_arcs : Deal → ℕ → Histories → (seen : List ℕ) → List ℕ
stale_arcs d v k seen = filter (is_stale d v k seen) (arcs d.graph)

-- there is one
abbrev pub is_any : List ℕ → Bool
is_any [] = false
is_any (a ∷ stale) = true

-- the call waits for a stale ledger: it is one on that ledger, or a publish on whichever
abbrev pub waits_for : (stale : List ℕ) → Action → Bool
waits_for stale x = is_listed x.arc stale || (is_publish (Some x.call) && is_any stale)

-- the calls of these that don't
abbrev pub unwaiting : (stale : List ℕ) → List Action → List Action
unwaiting stale xs = filter (λ x. not (waits_for stale x)) xs

-- the locks for which a hashkey would have to be signed: none was kept
abbrev pub unsigned_locks : Deal → (ℕ → Option Hashkey) → List ℕ
unsigned_locks d kept = filter (λ i. is_none (kept i)) (locks d)

-- the locks for which nothing is signed and nothing presented: those whose notes are torn or differ,
-- those of unlocks that were never kept, and where a ledger is stale all for which a hashkey would
-- have to be signed
abbrev pub stopped_locks : Deal → (ℕ → Option Hashkey) → (noted : List ℕ) → List Unkept → (stale : List ℕ) → List ℕ
stopped_locks d kept noted us stale = if is_any stale then unkept_locks us ++ noted ++ unsigned_locks d kept else unkept_locks us ++ noted
