use Rattle.std.proofs.Common.{◌≡◌, ◌<◌, ℕ, [], length, get_or}
use Rattle.hash_signature.proofs.same.value_bytes.Given as goal

abbrev pub invariant-values : goal.invariant-values
invariant-values l = (k : ℕ) → k < l.value-index → length (get_or l.values k []) ≡ 32
