use Rattle.std.proofs.Common.{ap, Bool, []}
use Rattle.program_words.specs.declared.choice.Choice.TheVariants.{Transcript}
use Rattle.program_words.specs.declared.task.Order.TheVariants.{Run}
use Rattle.program_words.specs.declared.task.Task.TheVariants.{Input}
use Rattle.program_words.proofs.Asked.{flag_is}
use Rattle.program_words.proofs.Builds.{first_read}
use Rattle.program_words.proofs.read.run_task.Goals as goal

pub returns : goal.returns
returns c = λ words whole read.
    ap (λ (b : Bool). Input (Run b))
    (flag_is Transcript words _ c.get_flag.result (first_read Transcript [] words c.args.matches.now read) c.get_flag.ensures.value c.get_flag.ensures.other)
