use Rattle.std.proofs.Common.{◌≡◌, ℕ, ◌<◌, false, length, get_or}
use Rattle.conduct_check.specs.Standing.{first_origin}
use Rattle.conduct_check.proofs.standing.key_origins.Given as goal

abbrev pub invariant-loop-lock : goal.invariant-loop-lock
invariant-loop-lock l = (length l.origins ≡ 8) × ((i : ℕ) → i < l.lock → get_or l.origins i false ≡ first_origin l.judged i)
