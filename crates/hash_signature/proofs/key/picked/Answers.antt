use Rattle.std.proofs.Common.{arith, rules, ◌∙◌}
use Rattle.std.proofs.Math.ListN.{length-set}
use Rattle.hash_signature.specs.Signature.{signed_value, made_signature}
use Rattle.hash_signature.proofs.Chains.{filled_more, filled_all}
use Rattle.hash_signature.proofs.key.picked.Goals as goal

pub chains-preserved : goal.chains-preserved
chains-preserved c = record {
  width = length-set _ _ _ ∙ c.chains.invariant.width;
  filled =
      filled_more (signed_value c.args.chains.now.seed c.args.chains.now.party c.args.chains.now.lock c.args.message.now) c.chains.values c.chains.j _
      c.chains.invariant.width (omega arith) (search rules) c.chains.invariant.filled;
}

pub returns : goal.returns
unfolding made_signature
returns c =
    filled_all (signed_value c.args.chains.now.seed c.args.chains.now.party c.args.chains.now.lock c.args.message.now) c.chains.values c.chains.j
    c.chains.invariant.width (omega arith) c.chains.invariant.filled
