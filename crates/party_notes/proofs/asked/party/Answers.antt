use Rattle.std.proofs.Common.{ap}
use Rattle.party_notes.specs.Asked.{by_refusal}
use Rattle.party_notes.proofs.Faults.{fails_by_refusal}
use Rattle.party_notes.proofs.asked.party.Goals as goal

pub returns-in-Ok-clause-exact : goal.returns-in-Ok-clause-exact
returns-in-Ok-clause-exact c = ap by_refusal c.in-Ok.ensures.exact

pub returns-in-Err-clause-exact : goal.returns-in-Err-clause-exact
returns-in-Err-clause-exact c = fails_by_refusal _ c.in-Err.fault c.refusal_fault.result c.refusal_fault.ensures c.in-Err.ensures.exact
