use Rattle.swap_commands.proofs.replay.SkipWalkerRefJobReason.take.Goals as goal

pub returns-clause-taken : goal.returns-clause-taken
returns-clause-taken c = record { event = c.in_ok-next_event.field-0; is_told = c.in_ok-next_event.ensures.exact; stepped = tt }
