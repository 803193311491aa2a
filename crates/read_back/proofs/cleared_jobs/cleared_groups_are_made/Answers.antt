use Rattle.read_back.proofs.ClearedWhole as whole
use Rattle.read_back.proofs.cleared_jobs.cleared_groups_are_made.Goals as goal

pub returns : goal.returns
returns c = whole.cleared_groups_are_made
