use Rattle.std.proofs.Common.{arith}
use Rattle.swap_io.proofs.lines.Lines.pull.Goals as goal

pub returns-in_err-count-clause-later : goal.returns-in_err-count-clause-later
returns-in_err-count-clause-later g c = c.in_err-count.ensures.cause.later

pub returns-in_err-count-clause-failed : goal.returns-in_err-count-clause-failed
returns-in_err-count-clause-failed g c = λ _. c.in_err-count.ensures.cause.failed

pub returns-in_err-count-clause-most : goal.returns-in_err-count-clause-most
returns-in_err-count-clause-most g c = omega (arith, c.requires.before)

pub returns-then-self-clause-later : goal.returns-then-self-clause-later
returns-then-self-clause-later g c = c.in_ok-count.ensures.cause.later

pub returns-then-self-clause-failed : goal.returns-then-self-clause-failed
returns-then-self-clause-failed g c = λ e. absurd (cc e)

pub returns-clause-later : goal.returns-clause-later
returns-clause-later g c = c.in_ok-count.ensures.cause.later

pub returns-clause-failed : goal.returns-clause-failed
returns-clause-failed g c = λ e. absurd (cc e)
