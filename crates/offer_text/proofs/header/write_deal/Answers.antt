use Rattle.std.proofs.Common.{ap, ◌∙◌}
use Rattle.serde_json.specs.Written.{has_float, compact_text}
use Rattle.offer_text.specs.HeaderLine.{header_line}
use Rattle.offer_text.proofs.Floats.{header_has_none}
use Rattle.offer_text.proofs.header.write_deal.Goals as goal

pub returns : goal.returns
unfolding header_line
returns c =
    let job = c.args.job.now in
    let e = c.in_ok-header_value.ensures in
    c.new.ensures ∙ ap (λ v. v.items) c.into_bytes.ensures.value ∙ c.in_ok-text.ensures.text (ap has_float e ∙ header_has_none job)
    ∙ ap compact_text e
