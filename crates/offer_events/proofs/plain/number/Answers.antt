use Rattle.std.proofs.Common.{arith}
use Rattle.offer_events.proofs.Scanned.{zero_first}
use Rattle.offer_events.proofs.plain.number.Goals as goal

pub returns-in-48-clause-digits : goal.returns-in-48-clause-digits
returns-in-48-clause-digits c = zero_first c.args.text.now c.in-48.len_at_least (omega arith)
