use Rattle.program_laws.proofs.Enough as enough
use Rattle.program_laws.proofs.Written as written
use Rattle.program_laws.proofs.lines_say_enough.Goals as goal

pub returns-clause-enough : goal.returns-clause-enough
returns-clause-enough c = enough.lines_say_enough

pub returns-clause-heard : goal.returns-clause-heard
returns-clause-heard c = written.lines_are_heard

pub returns-clause-written : goal.returns-clause-written
returns-clause-written c = written.written_is_said
