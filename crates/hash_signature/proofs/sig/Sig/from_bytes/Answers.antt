use Rattle.std.proofs.Common.{◌≡◌, ap, ◌∙◌, arith}
use Rattle.std.proofs.Math.ListN.{length-set}
use Rattle.swap_base.specs.Text.{joined}
use Rattle.hash_signature.specs.Signature.{signature_value, text_values}
use Rattle.hash_signature.proofs.Chains.{filled_more, filled_all}
use Rattle.hash_signature.proofs.Values.{joined-text_values}
use Rattle.hash_signature.proofs.sig.Sig.from_bytes.Goals as goal

pub values-preserved : goal.values-preserved
values-preserved c = record {
  width = length-set _ _ _ ∙ c.values.invariant.width;
  filled =
      filled_more (signature_value c.args.bytes.now) c.values.values c.values.i _ c.values.invariant.width (omega arith) c.signature_value.ensures
      c.values.invariant.filled;
}

pub returns-clause-values : goal.returns-clause-values
unfolding text_values
returns-clause-values c =
    filled_all (signature_value c.args.bytes.now) c.values.values c.values.i c.values.invariant.width (omega arith) c.values.invariant.filled

pub returns-clause-bytes : goal.returns-clause-bytes
unfolding text_values
returns-clause-bytes c =
    let e : c.values.values ≡ text_values c.args.bytes.now =
    filled_all (signature_value c.args.bytes.now) c.values.values c.values.i c.values.invariant.width (omega arith) c.values.invariant.filled in
    ap joined e ∙ joined-text_values c.args.bytes.now (omega arith)
