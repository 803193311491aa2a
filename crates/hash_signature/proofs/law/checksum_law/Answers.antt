use Rattle.hash_signature.proofs.Checksum.{two_messages}
use Rattle.hash_signature.proofs.law.checksum_law.Goals as goal

pub returns : goal.returns
returns c = two_messages
