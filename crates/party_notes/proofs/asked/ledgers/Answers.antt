use Rattle.std.proofs.Common.{ap}
use Rattle.party_notes.specs.Asked.{as_answer_reason}
use Rattle.party_notes.proofs.Faults.{fails_by_reason}
use Rattle.party_notes.proofs.asked.ledgers.Goals as goal

pub returns-in-Ok-clause-exact : goal.returns-in-Ok-clause-exact
returns-in-Ok-clause-exact c = ap as_answer_reason c.in-Ok.ensures.exact

pub returns-in-Err-clause-exact : goal.returns-in-Err-clause-exact
returns-in-Err-clause-exact c = fails_by_reason _ c.in-Err.fault c.reason_fault.result c.reason_fault.ensures c.in-Err.ensures.exact
