use Rattle.disk_laws.proofs.Images as images
use Rattle.disk_laws.proofs.crashes_are_read.Goals as goal

pub returns-clause-calls : goal.returns-clause-calls
returns-clause-calls c = images.calls_are_the_journals

pub returns-clause-points : goal.returns-clause-points
returns-clause-points c = images.points_are_read

pub returns-clause-images : goal.returns-clause-images
returns-clause-images c = images.images_are_read

pub returns-clause-new : goal.returns-clause-new
returns-clause-new c = images.new_disks_are_made
