-- What a script does next.
use Rattle.std.specs.Prelude.{ℕ, Bool, true, false, nat_le, List, [], ◌∷◌, Option, None, if◌then◌else◌}
use Rattle.swap_digraph.specs.declared.deal.Deal.{Deal}
use Rattle.ledger_core.specs.declared.entry.Call.{Call}
use Rattle.ledger_core.specs.History.{height}
use Rattle.ledger_core.specs.Book.{Histories, history}
use Rattle.swap_job.specs.Crafted.{Seeds}
use Rattle.swap_job.specs.Resolved.{resolved}
use Rattle.swap_job.specs.declared.moves.Move.{Move}
use Rattle.swap_job.specs.declared.moves.Move.TheVariants.{Wait}

-- the move waits
abbrev pub is_wait : Move → Bool
is_wait (Wait a height) = true
is_wait _ = false

-- the move waits for a height that is reached, as far as is known
abbrev pub is_wait_done : Histories → Move → Bool
is_wait_done k (Wait a t) = nat_le t (height (history k a))
is_wait_done k _ = false

-- the moves from the first that isn't a wait that is over
abbrev pub past_waits : Histories → List Move → List Move
past_waits k [] = []
past_waits k (mv ∷ moves) = if is_wait_done k mv then past_waits k moves else mv ∷ moves

-- the call of the first move; none where it waits
abbrev pub first_call : Deal → Seeds → Histories → List Move → Option (ℕ × Call)
first_call d seeds k [] = None
first_call d seeds k (mv ∷ moves) = resolved d seeds k mv

-- without the first move, unless it waits
abbrev pub without_first : List Move → List Move
without_first [] = []
without_first (mv ∷ moves) = if is_wait mv then mv ∷ moves else moves

-- the next call of a script with these moves left
abbrev pub next_call : Deal → Seeds → Histories → List Move → Option (ℕ × Call)
next_call d seeds k moves = first_call d seeds k (past_waits k moves)

-- the moves that are left after it
abbrev pub moves_left : Histories → List Move → List Move
moves_left k moves = without_first (past_waits k moves)
