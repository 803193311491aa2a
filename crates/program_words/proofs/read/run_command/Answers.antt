use Rattle.std.proofs.Common.{◌∙◌, ap₂}
use Rattle.std.proofs.lemmas.Result.{IfOk-weaker}
use Rattle.clap.specs.Simple.{with_rule}
use Rattle.program_words.proofs.read.run_command.Goals as goal

pub returns : goal.returns
returns c = IfOk-weaker c.arg.result _ _ (λ m h. h.shape c.flag.ensures.own ∙ ap₂ with_rule c.bare.ensures c.flag.ensures.rule) c.arg.ensures
