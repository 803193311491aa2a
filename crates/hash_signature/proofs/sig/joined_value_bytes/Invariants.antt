use Rattle.std.proofs.Common.{◌≡◌, length, ℕ, ◌<◌, [], get_or, ◌*◌, take}
use Rattle.swap_base.specs.Text.{joined}
use Rattle.hash_signature.proofs.sig.joined_value_bytes.Given as goal

abbrev pub invariant-values : goal.invariant-values
invariant-values l = record {
  width : length l.bytes ≡ 2144;
  widths : (k : ℕ) → k < l.i → length (get_or l.values k []) ≡ 32;
  filled : take (32 * l.i) l.bytes ≡ joined (take l.i l.values);
}
