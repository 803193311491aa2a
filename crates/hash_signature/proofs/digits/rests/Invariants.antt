use Rattle.std.proofs.Common.{◌≡◌, ℕ, ◌<◌, ◌-◌, length, get_or}
use Rattle.hash_signature.proofs.digits.rests.Given as goal

abbrev pub invariant-chains : goal.invariant-chains
invariant-chains l = (length l.rests ≡ 67) × ((k : ℕ) → k < l.j → get_or l.rests k 0 ≡ 15 - get_or l.steps k 0)
