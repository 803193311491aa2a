use Rattle.swap_main.specs.Exit.{error_lines, usage}
use Rattle.swap_main.proofs.exit.with_wrong_words.Goals as goal

pub returns : goal.returns
unfolding error_lines usage
returns c = record { number = c.of_words.ensures.number; lines = c.of_words.ensures.words }
