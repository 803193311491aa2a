-- The unlock that is due: where its hashkey comes from, and on which arc it is made.
use Rattle.std.specs.Prelude.{ℕ, Bool, not, is_some, option_map, Option, Some, None, if◌then◌else◌}
use Rattle.std.specs.List.{find}
use Rattle.swap_digraph.specs.Graph.{entering}
use Rattle.swap_digraph.specs.declared.deal.Deal.{Deal}
use Rattle.swap_digraph.specs.Deal.{leads}
use Rattle.hashkey_path.specs.declared.hashkey.Hashkey.{Hashkey}
use Rattle.ledger_core.specs.Book.{Histories, history}
use Rattle.swap_rules.specs.Due.{has_called, unlocks_lock}
use Rattle.due_calls.specs.Unlocks.{first_seen_arc}
use Rattle.due_calls.specs.declared.unlock_due.Base.{Base}
use Rattle.due_calls.specs.declared.unlock_due.Base.TheVariants.{Signed, Own, Onto}
use Rattle.due_calls.specs.declared.unlock_due.UnlockDue.{UnlockDue}

-- where the hashkey for lock i comes from: it was signed, or is v's own where it leads the lock, or
-- is put onto one that v saw
unfoldable pub due_base : Deal → ℕ → Option Hashkey → Histories → ℕ → Option Base
due_base d v signed k i = if is_some signed then Some Signed else if leads d v i then Some Own else option_map Onto (first_seen_arc d v k i)

-- v made no unlock for lock i on arc a
abbrev pub not_called : ℕ → Histories → ℕ → ℕ → Bool
not_called v k i a = not (has_called v (unlocks_lock i) (history k a))

-- the first entering arc on which v made no unlock for lock i
abbrev pub first_closed : Deal → ℕ → Histories → ℕ → Option ℕ
first_closed d v k i = find (not_called v k i) (entering d.graph v)

-- the unlock for lock i, where there is an arc for it and a hashkey
abbrev pub unlock_due : ℕ → Option ℕ → Option Base → Option UnlockDue
unlock_due i None b = None
unlock_due i (Some a) b = option_map (λ base. record { arc = a; lock = i; base = base }) b

-- the unlock for lock i that is due where v is ready
unfoldable pub next_due_unlock : Deal → ℕ → (ℕ → Option Hashkey) → Histories → ℕ → Option UnlockDue
next_due_unlock d v signed k i = unlock_due i (first_closed d v k i) (due_base d v (signed i) k i)
