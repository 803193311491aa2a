use Rattle.disk_laws.proofs.Whole.{seeds_sign_whole}
use Rattle.disk_laws.proofs.seeds_sign_whole.Goals as goal

pub returns : goal.returns
returns c = seeds_sign_whole
