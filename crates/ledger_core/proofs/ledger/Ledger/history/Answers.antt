use Rattle.ledger_core.proofs.Scans.{add_up}
use Rattle.ledger_core.proofs.ledger.Ledger.history.Goals as goal

pub returns-clause-units : goal.returns-clause-units
returns-clause-units c =
    let l = c.self.inside in
    let i = c.self.invariant in
    rw (← c.self.view_is)
    (add_up l.deal l.arc l.history.list i.scans.legal (i.sized.ends.apart l.arc i.arc))
