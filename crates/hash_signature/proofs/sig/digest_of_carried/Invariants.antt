use Rattle.std.proofs.Common.{◌∷◌}
use Rattle.sha2.specs.Hashers.{Holds256}
use Rattle.swap_base.specs.Text.{joined}
use Rattle.hash_signature.specs.Signature.{signature_chain_end}
use Rattle.hash_signature.proofs.Chains.{first_chains}
use Rattle.hash_signature.proofs.sig.digest_of_carried.Given as goal

abbrev pub invariant-chains : goal.invariant-chains
invariant-chains l = Holds256 l.hasher (3 ∷ joined (first_chains (signature_chain_end l.message l.values) l.j))
