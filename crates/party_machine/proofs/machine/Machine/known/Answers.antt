use Rattle.std.proofs.Common.{◌∙◌, sym, ap, subst, length, ◌<◌}
use Rattle.ledger_core.specs.Book.{history}
use Rattle.history_index.specs.Value.{new_index, IsSameArc}
use Rattle.party_machine.specs.Machine.{MachineState}
use Rattle.party_machine.proofs.MachineEntries.{one_each, released_history, renewed_wallet}
use Rattle.party_machine.proofs.machine.Machine.known.Goals as goal

pub returns-clause-entries : goal.returns-clause-entries
returns-clause-entries c =
    let i = c.self.inside in
    let lt = rw (← c.self.view_is) at c.requires in
    let below : c.args.arc < length i.known.items = rw (one_each i.deal i.wallet i.known.items c.self.invariant.ready) lt in
    sym (ap (λ (s : MachineState). history s.known c.args.arc) (sym c.self.view_is)
    ∙ released_history i.known.items c.args.arc c.index.result.now below c.index.ensures)

pub returns-clause-made : goal.returns-clause-made
returns-clause-made c =
    let i = c.self.inside in
    let lt = rw (← c.self.view_is) at c.requires in
    subst (λ (s : MachineState). IsSameArc (new_index s.deal c.args.arc) c.index.result.now) c.self.view_is
    (renewed_wallet i.deal i.wallet i.known.items c.args.arc c.index.result.now c.self.invariant.ready lt c.index.ensures)
