use Rattle.std.proofs.Common.{ap, ◌∙◌}
use Rattle.serde_json.specs.Written.{has_float, compact_text}
use Rattle.swap_clear.specs.ClearedText.{group_line}
use Rattle.swap_clear.proofs.Floats.{group_has_none}
use Rattle.swap_clear.proofs.group.group_line.Goals as goal

pub returns : goal.returns
unfolding group_line
returns c =
    let e = c.in_ok-group_value.ensures in
    c.new.ensures ∙ ap (λ v. v.items) c.into_bytes.ensures.value ∙ c.in_ok-text.ensures.text
    (ap has_float e ∙ group_has_none c.args.wishes.now c.args.group.now) ∙ ap compact_text e
