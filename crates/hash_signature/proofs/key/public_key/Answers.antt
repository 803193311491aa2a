use Rattle.std.proofs.Common.{arith, rules}
use Rattle.hash_signature.specs.Signature.{chain_end, derive_public_key}
use Rattle.hash_signature.proofs.Chains.{held_more, held_all}
use Rattle.hash_signature.proofs.key.public_key.Goals as goal

pub chains-preserved : goal.chains-preserved
chains-preserved c =
    held_more (chain_end c.args.chains.now.seed c.args.chains.now.party c.args.chains.now.lock) c.chains.j _ _ (search rules)
    (c.update-in-chains.ensures _ c.chains.invariant)

pub returns : goal.returns
unfolding derive_public_key
returns c =
    c.finalize.ensures _ (held_all (chain_end c.args.chains.now.seed c.args.chains.now.party c.args.chains.now.lock) c.chains.j _ (omega arith)
    c.chains.invariant)
