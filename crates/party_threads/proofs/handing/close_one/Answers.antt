use Rattle.party_threads.proofs.Placing.{first_there, second_there, is_closed}
use Rattle.party_threads.proofs.handing.close_one.Goals as goal

pub take-first-requires-clause-there : goal.take-first-requires-clause-there
take-first-requires-clause-there c =
    rw c.arcs.ensures (first_there c.args.deal.now c.args.arc c.args.ledger.lock c.requires.sized c.requires.arc c.args.turns.now c.requires.set)

pub take-second-requires-clause-there : goal.take-second-requires-clause-there
take-second-requires-clause-there c =
    rw c.arcs.ensures (second_there c.args.deal.now c.args.arc c.args.ledger.lock c.requires.sized c.requires.arc c.args.turns.now c.requires.set
    c.take-first.new.turns (rw c.arcs.ensures at c.take-first.ensures.gone))

pub returns-clause-closed : goal.returns-clause-closed
returns-clause-closed c =
    is_closed c.args.deal.now c.args.arc c.args.ledger.lock c.requires.sized c.requires.arc c.args.turns.now c.requires.set c.take-first.new.turns
    (rw c.arcs.ensures at c.take-first.ensures.gone) c.take-second.new.turns (rw c.arcs.ensures at c.take-second.ensures.gone) c.take_clock-clock.new.turns
    (rw c.n.ensures at c.take_clock-clock.ensures.gone) c.close.result.value c.take-first.result c.take-second.result c.take_clock-clock.result
    (rw c.arcs.ensures at c.take-first.ensures.pass) (rw c.arcs.ensures at c.take-second.ensures.pass) (rw c.n.ensures at c.take_clock-clock.ensures.pass)
    c.close.ensures.first c.close.ensures.second c.close.ensures.clock c.close.ensures.legal
