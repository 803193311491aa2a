use Rattle.std.proofs.Common.{sym, ap, ◌∙◌}
use Rattle.told_ledgers.specs.SoFar.{LedgerSoFar}
use Rattle.told_ledgers.specs.Ledger.{is_passed}
use Rattle.told_ledgers.proofs.Ticks.{tick_line_heard}
use Rattle.told_ledgers.proofs.one_ledger.OneLedger.take.Goals as goal

pub returns-in-Ok-clause-taken : goal.returns-in-Ok-clause-taken
returns-in-Ok-clause-taken c = λ t n.
    tick_line_heard n c.args.self.now c.take_tick.new.self c.args.kind c.args.line.now c.in-Ok.k
    (ap (λ (s : LedgerSoFar). is_passed s.is_closed c.args.kind) (sym c.self.view_is) ∙ (sym c.is_passed.ensures ∙ c.if-is_passed.false))
    (sym c.is_refused.ensures ∙ c.if-is_refused.false) c.in-Ok.ensures (c.take_tick.ensures.taken t n)
