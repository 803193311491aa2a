use Rattle.std.proofs.Common.{ap, ◌∙◌, subst}
use Rattle.ledger_shared.specs.Seat.{HasSeatLines}
use Rattle.ledger_shared.proofs.Seats.{take_step}
use Rattle.ledger_shared.proofs.seat.take.Goals as goal

pub invariant_of-seat : goal.invariant_of-seat
invariant_of-seat g c =
    let is = subst (λ s. HasSeatLines s c.seat.inside.seat.me) c.seat.view_is c.seat.invariant in
    (take_step c.args.seat.now _ _ _ c.take-ledger.result.ledger.value is c.requires.idle (c.take-ledger.ensures.lock
    ∙ ap (λ s. s.lock) c.seat.view_is) c.take-ledger.ensures.further c.take-ledger.ensures.turn).0

pub returns-clause-turn : goal.returns-clause-turn
returns-clause-turn g c =
    let is = subst (λ s. HasSeatLines s c.seat.inside.seat.me) c.seat.view_is c.seat.invariant in
    (take_step c.args.seat.now _ _ _ c.take-ledger.result.ledger.value is c.requires.idle (c.take-ledger.ensures.lock
    ∙ ap (λ s. s.lock) c.seat.view_is) c.take-ledger.ensures.further c.take-ledger.ensures.turn).1

pub returns-clause-ledger : goal.returns-clause-ledger
returns-clause-ledger g c =
    let is = subst (λ s. HasSeatLines s c.seat.inside.seat.me) c.seat.view_is c.seat.invariant in
    (take_step c.args.seat.now _ _ _ c.take-ledger.result.ledger.value is c.requires.idle (c.take-ledger.ensures.lock
    ∙ ap (λ s. s.lock) c.seat.view_is) c.take-ledger.ensures.further c.take-ledger.ensures.turn).2
