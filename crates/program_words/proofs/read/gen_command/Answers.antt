use Rattle.std.proofs.Common.{◌∙◌, ap₂}
use Rattle.std.proofs.lemmas.Result.{IfOk-weaker}
use Rattle.clap.specs.Simple.{with_rule}
use Rattle.program_words.proofs.read.gen_command.Goals as goal

pub returns : goal.returns
returns c =
    let seed = c.in_ok-arg.ensures.shape c.number.ensures.own ∙ ap₂ with_rule c.bare.ensures c.number.ensures.rule in
    let parties = c.in_ok-arg-2.ensures.shape c.number-2.ensures.own ∙ ap₂ with_rule seed c.number-2.ensures.rule in
    let events = c.in_ok-arg-3.ensures.shape c.number-3.ensures.own ∙ ap₂ with_rule parties c.number-3.ensures.rule in
    IfOk-weaker c.arg-4.result _ _ (λ m h. h.shape c.flag.ensures.own ∙ ap₂ with_rule events c.flag.ensures.rule) c.arg-4.ensures
