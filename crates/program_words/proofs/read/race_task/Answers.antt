use Rattle.std.proofs.Common.{◌∙◌, ap₂, Bool, ℕ, [], ◌∷◌}
use Rattle.program_words.specs.Tables.{choices}
use Rattle.program_words.specs.declared.choice.Choice.TheVariants.{Ticks, Transcript}
use Rattle.program_words.specs.declared.task.Task.TheVariants as task
use Rattle.program_words.specs.declared.verb.Verb.TheVariants.{Race}
use Rattle.program_words.proofs.Asked.{flag_is, ticks_is}
use Rattle.program_words.proofs.Builds.{first_read, rest_read}
use Rattle.program_words.proofs.Names.{both}
use Rattle.program_words.proofs.read.race_task.Goals as goal

pub returns : goal.returns
returns c = λ words whole read.
    let ok = (both _ _ whole).0 in
    let later = rest_read Ticks (Transcript ∷ []) words c.args.matches.now read in
    ap₂ (λ (t : ℕ) (b : Bool). task.Race t b)
    (c.unwrap_or.ensures ∙ ticks_is (choices Race) words _ c.given_number.result ok (first_read Ticks (Transcript ∷ []) words c.args.matches.now read)
    c.given_number.ensures.none c.given_number.ensures.number)
    (flag_is Transcript words _ c.get_flag.result (first_read Transcript [] words c.args.matches.now later) c.get_flag.ensures.value c.get_flag.ensures.other)
