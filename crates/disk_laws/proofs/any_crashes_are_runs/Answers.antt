use Rattle.disk_laws.proofs.AnyRun.{any_crashes_are_runs}
use Rattle.disk_laws.proofs.any_crashes_are_runs.Goals as goal

pub returns : goal.returns
returns c = any_crashes_are_runs
