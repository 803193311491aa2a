use Rattle.std.proofs.Common.{◌≡◌, ℕ, List, map, drop, string_bytes, sym, subst}
use Rattle.program_words.specs.Words.{verb_task, AreNumbersInRange}
use Rattle.program_words.proofs.Ranges.{asked_within}
use Rattle.program_words.proofs.read.read_whole.Goals as goal

pub returns-in-Ok-clause-exact : goal.returns-in-Ok-clause-exact
returns-in-Ok-clause-exact c = c.parse_task.ensures (map string_bytes (drop 1 c.args.words.now)) c.requires.whole c.in-Ok.ensures.read

pub returns-in-Ok-clause-within : goal.returns-in-Ok-clause-within
returns-in-Ok-clause-within c =
    let words : List (List ℕ) = map string_bytes (drop 1 c.args.words.now) in
    let is : c.parse_task.result ≡ verb_task c.args.verb words = c.parse_task.ensures words c.requires.whole c.in-Ok.ensures.read in
    subst AreNumbersInRange (sym is) (asked_within c.args.verb words c.requires.whole)
