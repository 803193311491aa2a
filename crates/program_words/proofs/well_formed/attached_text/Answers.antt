use Rattle.std.proofs.Common.{None, arith}
use Rattle.std.proofs.lemmas.Str.Pattern.{split_once_first}
use Rattle.program_words.proofs.Slices.{none_behind}
use Rattle.program_words.proofs.well_formed.attached_text.Goals as goal

pub returns-in-None : goal.returns-in-None
returns-in-None c = none_behind c.args.word.now (split_once_first 61 c.args.word.now None c.in-None.ensures.cases (omega arith))
