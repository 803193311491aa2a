use Rattle.disk_laws.proofs.DiskRuns as runs
use Rattle.disk_laws.proofs.runs_are_on_disks.Goals as goal

pub returns-clause-runs : goal.returns-clause-runs
returns-clause-runs c = runs.runs_are_on_disks

pub returns-clause-finishes : goal.returns-clause-finishes
returns-clause-finishes c = runs.finishes_are_on_disks
