use Rattle.swap.proofs.perform.Goals as goal

pub returns-else-may_race-clause-answer : goal.returns-else-may_race-clause-answer
returns-else-may_race-clause-answer g c = c.swap_plain.ensures.answer (c.may_race.ensures c.if-may_race.false)
