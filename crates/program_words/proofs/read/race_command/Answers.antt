use Rattle.std.proofs.Common.{◌∙◌, ap₂}
use Rattle.std.proofs.lemmas.Result.{IfOk-weaker}
use Rattle.clap.specs.Simple.{with_rule}
use Rattle.program_words.proofs.read.race_command.Goals as goal

pub returns : goal.returns
returns c =
    let ticks = c.in_ok-arg.ensures.shape c.number.ensures.own ∙ ap₂ with_rule c.bare.ensures c.number.ensures.rule in
    IfOk-weaker c.arg-2.result _ _ (λ m h. h.shape c.flag.ensures.own ∙ ap₂ with_rule ticks c.flag.ensures.rule) c.arg-2.ensures
