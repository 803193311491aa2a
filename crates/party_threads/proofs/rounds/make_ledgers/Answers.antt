use Rattle.std.proofs.Common.{ap, ◌∙◌}
use Rattle.swap_world.specs.Inside.{new_ledger}
use Rattle.party_threads.proofs.Starting.{one_ledger_more}
use Rattle.party_threads.proofs.rounds.make_ledgers.Goals as goal

pub arcs-preserved : goal.arcs-preserved
arcs-preserved c =
    one_ledger_more c.args.deal.now c.arcs.arc c.arcs.ledgers.items c.push.new.self.items c.in_ok-new.field-0 c.arcs.invariant
    (c.in_ok-new.ensures ∙ (c.in_ok-ledger.ensures ∙ ap (λ d. new_ledger d c.arcs.arc) c.in_ok-held.ensures)) c.in_ok-push.ensures.items
