use Rattle.std.proofs.Common.{◌≡◌, ℕ, ◌<◌, false, length, get_or}
use Rattle.conduct_check.specs.Standing.{first_valid}
use Rattle.conduct_check.proofs.standing.validity_flags.Given as goal

abbrev pub invariant-loop-lock : goal.invariant-loop-lock
invariant-loop-lock l = (length l.valid ≡ 8) × ((i : ℕ) → i < l.lock → get_or l.valid i false ≡ first_valid l.judged i)
