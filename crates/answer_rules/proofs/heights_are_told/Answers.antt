use Rattle.answer_rules.proofs.OnTime as heights
use Rattle.answer_rules.proofs.Until as until
use Rattle.answer_rules.proofs.heights_are_told.Goals as goal

pub returns-clause-by : goal.returns-clause-by
returns-clause-by c = heights.useful_has_height

pub returns-clause-until : goal.returns-clause-until
returns-clause-until c = until.unlocks_have_last
