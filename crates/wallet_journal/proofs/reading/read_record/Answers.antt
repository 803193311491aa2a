use Rattle.std.proofs.Common.{arith}
use Rattle.wallet_journal.proofs.reading.read_record.Goals as goal

pub read_body_hashkey-requires-clause-fits : goal.read_body_hashkey-requires-clause-fits
read_body_hashkey-requires-clause-fits c = omega (arith, c.in-Some-sound_count.ensures.few, c.in-Some.ensures.size)
