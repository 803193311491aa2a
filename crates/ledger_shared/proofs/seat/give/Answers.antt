use Rattle.std.proofs.Common.{ap, ◌∙◌, subst}
use Rattle.ledger_shared.specs.Seat.{HasSeatLines}
use Rattle.ledger_shared.proofs.Seats.{continued, give_step}
use Rattle.ledger_shared.proofs.seat.give.Goals as goal

pub give-requires-clause-further : goal.give-requires-clause-further
give-requires-clause-further c =
    let is = subst (λ s. HasSeatLines s c.seat.inside.seat.me) c.seat.view_is c.seat.invariant in
    continued c.args.seat.now _ c.args.ledger.value is c.requires.turn c.requires.deal c.requires.arc c.requires.further

pub invariant_of-seat : goal.invariant_of-seat
invariant_of-seat c =
    let is = subst (λ s. HasSeatLines s c.seat.inside.seat.me) c.seat.view_is c.seat.invariant in
    (give_step c.args.seat.now _ _ _ c.args.ledger.value is c.requires.turn (c.give.ensures.lock
    ∙ ap (λ s. s.lock) c.seat.view_is) c.requires.deal c.requires.arc c.give.ensures.idle).0

pub returns : goal.returns
returns c =
    let is = subst (λ s. HasSeatLines s c.seat.inside.seat.me) c.seat.view_is c.seat.invariant in
    (give_step c.args.seat.now _ _ _ c.args.ledger.value is c.requires.turn (c.give.ensures.lock
    ∙ ap (λ s. s.lock) c.seat.view_is) c.requires.deal c.requires.arc c.give.ensures.idle).1
