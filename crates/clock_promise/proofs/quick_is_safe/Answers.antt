use Rattle.clock_promise.proofs.Quick as quick
use Rattle.clock_promise.proofs.OnTime as on_time
use Rattle.clock_promise.proofs.quick_is_safe.Goals as goal

pub returns-clause-prompt : goal.returns-clause-prompt
returns-clause-prompt c = quick.quick_is_prompt

pub returns-clause-safe : goal.returns-clause-safe
returns-clause-safe c = quick.quick_is_safe

pub returns-clause-obedient : goal.returns-clause-obedient
returns-clause-obedient c = quick.obedient_is_prompt

pub returns-clause-obedient_safe : goal.returns-clause-obedient_safe
returns-clause-obedient_safe c = quick.obedient_is_safe

pub returns-clause-due : goal.returns-clause-due
returns-clause-due c = on_time.due_is_on_time
