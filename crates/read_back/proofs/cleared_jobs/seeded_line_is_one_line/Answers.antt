use Rattle.read_back.proofs.ClearedWhole as whole
use Rattle.read_back.proofs.cleared_jobs.seeded_line_is_one_line.Goals as goal

pub returns : goal.returns
returns c = whole.seeded_line_is_one_line
