use Rattle.std.proofs.Common.{◌∙◌, ap, true}
use Rattle.clap.specs.Simple.{App, app_of_fields, on_top, Shape}
use Rattle.program_words.proofs.read.bare.Goals as goal

pub returns : goal.returns
returns c = ap app_of_fields c.disable_help_flag.ensures
    ∙ ap (λ (a : App). on_top (λ (s : Shape). record s { disable_help_flag = true }) a) c.new.ensures.app
