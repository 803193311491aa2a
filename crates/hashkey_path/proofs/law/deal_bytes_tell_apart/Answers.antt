use Rattle.hashkey_path.proofs.Apart as apart
use Rattle.hashkey_path.proofs.law.deal_bytes_tell_apart.Goals as goal

pub returns : goal.returns
returns c = apart.deal_bytes_tell_apart
