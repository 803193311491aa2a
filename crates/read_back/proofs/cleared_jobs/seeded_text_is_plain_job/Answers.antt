use Rattle.read_back.proofs.ClearedWhole as whole
use Rattle.read_back.proofs.cleared_jobs.seeded_text_is_plain_job.Goals as goal

pub returns : goal.returns
returns c = whole.seeded_text_is_plain_job
