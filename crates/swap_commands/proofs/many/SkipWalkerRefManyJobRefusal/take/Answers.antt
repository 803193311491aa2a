use Rattle.swap_commands.proofs.many.SkipWalkerRefManyJobRefusal.take.Goals as goal

pub returns-clause-taken : goal.returns-clause-taken
returns-clause-taken c = record { event = c.in_ok-next_many.field-0; is_told = c.in_ok-next_many.ensures.exact; stepped = tt }
