use Rattle.offer_header.proofs.header_lists.only_arc_fields.Goals as goal

pub returns-then-stated : goal.returns-then-stated
returns-then-stated c = rw c.if-stated.true c.allow_only.ensures
