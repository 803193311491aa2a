-- Locks for which a party makes no further call.
use Rattle.std.specs.Prelude.{ℕ, not, Bool, false, List, [], ◌++◌, filter, Option, if◌then◌else◌}
use Rattle.std.specs.List.{flat_map}
use Rattle.swap_digraph.specs.declared.deal.Deal.{Deal}
use Rattle.swap_digraph.specs.Deal.{locks}
use Rattle.hashkey_path.specs.declared.hashkey.Hashkey.{Hashkey}
use Rattle.ledger_core.specs.declared.entry.Call.{Call}
use Rattle.ledger_core.specs.declared.entry.Call.TheVariants.{Unlock}
use Rattle.ledger_core.specs.Book.{Histories}
use Rattle.swap_rules.specs.Due.{Wallet, Action, due_claims, due_refunds}
use Rattle.swap_rules.specs.Useful.{pressing_unlocks, useful_publishes}

-- the call is an unlock for a lock that is stopped
abbrev pub is_stopped_call : (ℕ → Bool) → Call → Bool
is_stopped_call stops (Unlock key) = stops key.lock
is_stopped_call stops _ = false

-- the calls of these that aren't
abbrev pub unstopped : (ℕ → Bool) → List Action → List Action
unstopped stops xs = filter (λ x. not (is_stopped_call stops x.call)) xs

-- the useful unlocks for a lock; none where it is stopped
abbrev pub unlocks_unless_stopped : (ℕ → Bool) → Deal → ℕ → (ℕ → ℕ) → Wallet → (ℕ → Option Hashkey) → Histories → ℕ → List Action
unlocks_unless_stopped stops d v at w signed k i = if stops i then [] else pressing_unlocks d v at w signed k i

-- all that is useful but for the unlocks for stopped locks, in the order of what is useful
unfoldable pub useful_unless_stopped : (ℕ → Bool) → Deal → ℕ → (ℕ → ℕ) → Wallet → (ℕ → Option Hashkey) → Histories → List Action
useful_unless_stopped stops d v at w signed k =
    useful_publishes d v at k ++ flat_map (unlocks_unless_stopped stops d v at w signed k) (locks d) ++ due_claims d v k ++ due_refunds d v k
