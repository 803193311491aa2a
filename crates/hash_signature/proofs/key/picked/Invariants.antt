use Rattle.std.proofs.Common.{◌≡◌, length, take}
use Rattle.hash_signature.specs.Signature.{signed_value}
use Rattle.hash_signature.proofs.Chains.{first_chains}
use Rattle.hash_signature.proofs.key.picked.Given as goal

abbrev pub invariant-chains : goal.invariant-chains
invariant-chains l = record {
  width : length l.values ≡ 67;
  filled : take l.j l.values ≡ first_chains (signed_value l.chains.seed l.chains.party l.chains.lock l.message) l.j;
}
