use Rattle.std.proofs.Common.{◌∙◌}
use Rattle.swap_answer.proofs.EachWord.{is_word, no_word}
use Rattle.swap_answer.proofs.words.utf8_word.Goals as goal

pub returns-in_ok-from_str-in-Ok : goal.returns-in_ok-from_str-in-Ok
returns-in_ok-from_str-in-Ok c = is_word _ _ c.in-Ok.ensures.cases.1 (c.in_ok-from_str-in-Ok.ensures.ok ∙ c.in-Ok.ensures.cases.0)

pub returns-in-Err : goal.returns-in-Err
returns-in-Err c = rw c.misspelt.ensures (no_word _ c.in-Err.ensures.cases.0)
