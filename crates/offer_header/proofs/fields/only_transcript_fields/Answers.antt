use Rattle.offer_header.proofs.fields.only_transcript_fields.Goals as goal

pub returns-then-keyed : goal.returns-then-keyed
returns-then-keyed c = rw c.if-keyed.true c.allow_only.ensures

pub returns : goal.returns
returns c = rw c.if-keyed.false c.allow_only-2.ensures
