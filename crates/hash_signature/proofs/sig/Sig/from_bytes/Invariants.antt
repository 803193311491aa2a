use Rattle.std.proofs.Common.{◌≡◌, length, take}
use Rattle.hash_signature.specs.Signature.{signature_value}
use Rattle.hash_signature.proofs.Chains.{first_chains}
use Rattle.hash_signature.proofs.sig.Sig.from_bytes.Given as goal

abbrev pub invariant-values : goal.invariant-values
invariant-values l = record {
  width : length l.values ≡ 67;
  filled : take l.i l.values ≡ first_chains (signature_value l.bytes) l.i;
}
