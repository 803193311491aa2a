use Rattle.swap_main.proofs.Naming.{all_known}
use Rattle.swap_main.proofs.program.ProgramStrategies.names.Goals as goal

pub returns : goal.returns
returns c = all_known c.program_names.result c.program_names.ensures
