use Rattle.std.proofs.Common.{arith}
use Rattle.ledger_core.proofs.Bounds.{bounds}
use Rattle.ledger_core.proofs.ledger.Ledger.height.Goals as goal

pub returns-clause-low : goal.returns-clause-low
returns-clause-low c =
    let l = c.self.inside in
    let k = c.self.invariant.scans in
    let low = (bounds l.deal l.arc l.history.list k.legal).low in
    let same = k.height in
    omega arith
