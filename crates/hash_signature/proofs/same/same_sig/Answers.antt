use Rattle.std.proofs.Common.{◌∙◌, ap₂}
use Rattle.std.specs.Str.{bytes_eq}
use Rattle.swap_base.specs.Lists.{same_list}
use Rattle.hash_signature.proofs.Bytes.{same_bytes}
use Rattle.hash_signature.proofs.same.same_sig.Goals as goal

pub returns : goal.returns
returns c =
    let one = c.value_bytes.ensures in
    let other = c.value_bytes-2.ensures in
    let same =
    same_bytes c.value_bytes.result.now c.value_bytes-2.result.now c.values.result.now c.values-2.result.now one.bytes one.values other.bytes other.values in
    c.eq.ensures ∙ (same ∙ ap₂ (λ s t. same_list bytes_eq s t) c.values.ensures c.values-2.ensures)
