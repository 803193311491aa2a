use Rattle.ledger_core.proofs.Scans.{held_is}
use Rattle.ledger_core.proofs.ledger.Ledger.held.Goals as goal

pub returns : goal.returns
returns c =
    let l = c.self.inside in
    let k = c.self.invariant.scans in
    rw (← c.self.view_is) (held_is l.deal l.arc l.history.list l.accounts k.legal k.accounts)
