use Rattle.std.proofs.Common.{sym}
use Rattle.told_ledgers.proofs.one_ledger.OneLedger.into_ticked.Goals as goal

pub returns-then-take_tick-clause-exact : goal.returns-then-take_tick-clause-exact
returns-then-take_tick-clause-exact c = sym (c.take_tick.ensures.taken c.if-take_tick.true c.args.number)
