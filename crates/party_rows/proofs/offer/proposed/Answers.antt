use Rattle.party_rows.proofs.Offered.{is_offered}
use Rattle.party_rows.proofs.offer.proposed.Goals as goal

pub returns-in-Ok-clause-offered : goal.returns-in-Ok-clause-offered
returns-in-Ok-clause-offered c =
    is_offered c.args.header c.in-Ok.graph c.assemble_job.result c.requires.within c.requires.plain c.in-Ok.ensures.ends c.in-Ok.ensures.parts.0
    c.in-Ok.ensures.parts.1 c.in-Ok.ensures.accepted c.assemble_job.ensures
