use Rattle.std.proofs.Common.{◌≡◌, length, ◌*◌, ◌≤◌, ◌<◌, ℕ, get_or, take}
use Rattle.hash_signature.specs.Signature.{half_bytes, checksum}
use Rattle.hash_signature.proofs.digits.digits.Given as goal

abbrev pub invariant-bytes : goal.invariant-bytes
invariant-bytes l = record {
  width : length l.out ≡ 67;
  written : take (2 * l.i) l.out ≡ half_bytes (take l.i l.message);
  sum_is : l.sum ≡ checksum (half_bytes (take l.i l.message));
  bytes : (k : ℕ) → k < l.i → get_or l.message k 0 < 256;
  bounded : l.sum ≤ 30 * l.i;
}
