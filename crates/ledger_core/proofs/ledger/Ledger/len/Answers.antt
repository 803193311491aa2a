use Rattle.std.proofs.Common.{arith}
use Rattle.ledger_core.proofs.Bounds.{countable}
use Rattle.ledger_core.proofs.ledger.Ledger.len.Goals as goal

pub overflow_cast-result : goal.overflow_cast-result
overflow_cast-result c =
    let l = c.self.inside in
    let few = (countable l.deal l.arc l.history.list c.self.invariant.scans.legal).count in
    omega arith
