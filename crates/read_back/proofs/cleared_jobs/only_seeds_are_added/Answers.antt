use Rattle.read_back.proofs.ClearedWhole as whole
use Rattle.read_back.proofs.cleared_jobs.only_seeds_are_added.Goals as goal

pub returns : goal.returns
returns c = whole.only_seeds_are_added
