use Rattle.std.proofs.Common.{◌≡◌, ◌∙◌, ap, arith}
use Rattle.swap_base.specs.Text.{joined}
use Rattle.hash_signature.specs.Signature.{text_values}
use Rattle.hash_signature.proofs.Values.{text_values-joined}
use Rattle.hash_signature.proofs.Bytes.{flat_joined}
use Rattle.hash_signature.proofs.same.value_bytes.Goals as goal

pub returns-clause-values : goal.returns-clause-values
returns-clause-values c =
    let bytes : c.as_flattened.result.now ≡ joined c.args.values.now = c.as_flattened.ensures.value ∙ flat_joined c.args.values.now in
    ap text_values bytes ∙ text_values-joined c.args.values.now c.told-values (λ k lt. c.values.invariant k (omega (arith, c.told-values, c.values-test.false)))
