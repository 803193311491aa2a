use Rattle.std.proofs.Common.{Ok, sym, subst}
use Rattle.ledger_core.specs.WellFormed.{IsFormedEntry}
use Rattle.told_ledgers.proofs.Ledgers.{formed_of, stated_there}
use Rattle.told_ledgers.proofs.one_ledger.OneLedger.stated_entry.Goals as goal

pub returns-clause-formed : goal.returns-clause-formed
returns-clause-formed c =
    let d = c.self.inside.ledger.deal in
    let a = c.self.inside.ledger.arc in
    let past = c.self.inside.past.list in
    let given = rw (c.deal-deal.ensures.value, c.arc-arc.ensures.value) at c.in_ok-entry.ensures in
    let stated =
    stated_there d a past c.args.line.now (Ok c.in_ok-entry.entry) c.self.inside.ledger.history c.height.result c.self.invariant.replayed
    c.height.ensures.value c.height.ensures.low given in
    rw (← c.self.view_is)
    (subst (IsFormedEntry d a past) (sym c.in_ok-with_known.ensures) (formed_of d a past c.args.line.now (Ok c.in_ok-entry.entry) stated))
