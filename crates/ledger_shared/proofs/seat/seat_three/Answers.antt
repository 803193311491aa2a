use Rattle.ledger_shared.proofs.Lines.{lines_below}
use Rattle.ledger_shared.proofs.Seats.{three_seats, new_step}
use Rattle.ledger_shared.proofs.seat.seat_three.Goals as goal

pub new-requires-clause-authors : goal.new-requires-clause-authors
new-requires-clause-authors g c = let l = c.args.ledger.value in lines_below l.deal l.arc l.history

pub invariant_of-result : goal.invariant_of-result
invariant_of-result g c =
    (new_step c.args.ledger.value c.in-Ok.lock.lock _ 0 _ (three_seats _ _ _ _ _ _ c.three-first.ensures c.in-Ok.ensures.seats).0).0

pub invariant_of-result-in-Ok : goal.invariant_of-result-in-Ok
invariant_of-result-in-Ok g c =
    (new_step c.args.ledger.value c.in-Ok.lock.lock _ 1 _ (three_seats _ _ _ _ _ _ c.three-first.ensures c.in-Ok.ensures.seats).1).0

pub invariant_of-result-in-Ok-2 : goal.invariant_of-result-in-Ok-2
invariant_of-result-in-Ok-2 g c =
    (new_step c.args.ledger.value c.in-Ok.lock.lock _ 2 _ (three_seats _ _ _ _ _ _ c.three-first.ensures c.in-Ok.ensures.seats).2).0

pub returns-in-Ok-clause-first : goal.returns-in-Ok-clause-first
returns-in-Ok-clause-first g c =
    let l = c.args.ledger.value in
    (new_step l c.in-Ok.lock.lock _ 0 _ (three_seats _ _ _ _ _ _ c.three-first.ensures c.in-Ok.ensures.seats).0).1

pub returns-in-Ok-clause-second : goal.returns-in-Ok-clause-second
returns-in-Ok-clause-second g c =
    let l = c.args.ledger.value in
    (new_step l c.in-Ok.lock.lock _ 1 _ (three_seats _ _ _ _ _ _ c.three-first.ensures c.in-Ok.ensures.seats).1).1

pub returns-in-Ok-clause-clock : goal.returns-in-Ok-clause-clock
returns-in-Ok-clause-clock g c =
    let l = c.args.ledger.value in
    (new_step l c.in-Ok.lock.lock _ 2 _ (three_seats _ _ _ _ _ _ c.three-first.ensures c.in-Ok.ensures.seats).2).1
