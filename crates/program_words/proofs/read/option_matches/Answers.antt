use Rattle.std.proofs.Common.{◌∙◌, ap₂, subst₂, map, drop, string_bytes, List}
use Rattle.clap.specs.Walk.{Text}
use Rattle.clap.specs.Simple.{App, HasMatchesOf}
use Rattle.clap.specs.Takes.{takes}
use Rattle.program_words.specs.Tables.{choices}
use Rattle.program_words.specs.Parsed.{verb_app, first_word}
use Rattle.program_words.proofs.Names.{both}
use Rattle.program_words.proofs.Builds.{all_read, builds, split}
use Rattle.program_words.proofs.Parses.{taken}
use Rattle.program_words.proofs.read.option_matches.Goals as goal

pub returns-in-Ok-clause-read : goal.returns-in-Ok-clause-read
returns-in-Ok-clause-read c =
    let words = map string_bytes (drop 1 c.args.words.now) in
    let w = split string_bytes c.args.words.now c.requires.some in
    let has = subst₂ (λ (a : App) (ws : List Text). HasMatchesOf a ws c.in-Ok.matches) c.in_ok-command.ensures w.1 c.in-Ok.ensures.matches in
    all_read c.args.verb w.0 words c.in-Ok.matches (both _ _ c.requires.whole).0 has

pub returns-in-Err-clause-memory : goal.returns-in-Err-clause-memory
returns-in-Err-clause-memory c =
    let words = map string_bytes (drop 1 c.args.words.now) in
    let w = split string_bytes c.args.words.now c.requires.some in
    c.in-Err.ensures.passes (ap₂ takes c.in_ok-command.ensures w.1
    ∙ taken (first_word c.args.verb) (choices c.args.verb) (verb_app c.args.verb) w.0 words (builds c.args.verb) (both _ _ c.requires.whole).0)
