use Rattle.std.proofs.Common.{◌≡◌, ◌≤◌, ℕ, List, drop}
use Rattle.ledger_core.specs.Book.{Histories}
use Rattle.swap_run.specs.Script.{past_waits}
use Rattle.swap_job.specs.declared.moves.Move.{Move}
use Rattle.swap_run.proofs.script.after_waits.Given as goal

-- the moves between the two places are waits that are over
pub record IsPast (k : Histories) (moves : List Move) (from at : ℕ) : Type 0 where
  pub later : from ≤ at
  pub same : past_waits k (drop at moves) ≡ past_waits k (drop from moves)

abbrev pub invariant-loop-at : goal.invariant-loop-at
invariant-loop-at l = IsPast l.known.histories l.moves l.from l.at
