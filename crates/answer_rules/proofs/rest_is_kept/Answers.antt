use Rattle.answer_rules.proofs.Ending as finished
use Rattle.answer_rules.proofs.Waiting as waiting
use Rattle.answer_rules.proofs.rest_is_kept.Goals as goal

pub returns-clause-finished : goal.returns-clause-finished
returns-clause-finished c = finished.finished_stays

pub returns-clause-ticks : goal.returns-clause-ticks
returns-clause-ticks c = waiting.ticks_leave_nothing
