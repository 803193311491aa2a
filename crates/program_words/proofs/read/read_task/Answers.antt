use Rattle.std.proofs.Common.{◌≡◌, subst}
use Rattle.program_words.specs.Words.{AreNumbersInRange}
use Rattle.program_words.proofs.read.read_task.Goals as goal

pub returns-clause-within : goal.returns-clause-within
returns-clause-within c task is =
    let same : c.in_ok-read_whole.field-0 ≡ task = cc is in
    subst AreNumbersInRange same c.in_ok-read_whole.ensures.within
