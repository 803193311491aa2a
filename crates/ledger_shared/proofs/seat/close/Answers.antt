use Rattle.std.proofs.Common.{subst}
use Rattle.ledger_shared.specs.Seat.{HasSeatLines}
use Rattle.ledger_shared.proofs.Seats.{close_step}
use Rattle.ledger_shared.proofs.seat.close.Goals as goal

pub returns-clause-first : goal.returns-clause-first
returns-clause-first c =
    let r = subst (λ s. HasSeatLines s c.first.inside.seat.me) c.first.view_is c.first.invariant in
    let s = subst (λ s. HasSeatLines s c.second.inside.seat.me) c.second.view_is c.second.invariant in
    let t = subst (λ s. HasSeatLines s c.clock.inside.seat.me) c.clock.view_is c.clock.invariant in
    (close_step c.args.first c.args.second c.args.clock _ _ _ _ _ c.close-ledger.result.ledger.value r s t c.requires.first.2 c.requires.second.2
    c.requires.clock.2 c.join.ensures.both c.join-2.ensures.both c.close-ledger.ensures).0

pub returns-clause-second : goal.returns-clause-second
returns-clause-second c =
    let r = subst (λ s. HasSeatLines s c.first.inside.seat.me) c.first.view_is c.first.invariant in
    let s = subst (λ s. HasSeatLines s c.second.inside.seat.me) c.second.view_is c.second.invariant in
    let t = subst (λ s. HasSeatLines s c.clock.inside.seat.me) c.clock.view_is c.clock.invariant in
    (close_step c.args.first c.args.second c.args.clock _ _ _ _ _ c.close-ledger.result.ledger.value r s t c.requires.first.2 c.requires.second.2
    c.requires.clock.2 c.join.ensures.both c.join-2.ensures.both c.close-ledger.ensures).1

pub returns-clause-clock : goal.returns-clause-clock
returns-clause-clock c =
    let r = subst (λ s. HasSeatLines s c.first.inside.seat.me) c.first.view_is c.first.invariant in
    let s = subst (λ s. HasSeatLines s c.second.inside.seat.me) c.second.view_is c.second.invariant in
    let t = subst (λ s. HasSeatLines s c.clock.inside.seat.me) c.clock.view_is c.clock.invariant in
    (close_step c.args.first c.args.second c.args.clock _ _ _ _ _ c.close-ledger.result.ledger.value r s t c.requires.first.2 c.requires.second.2
    c.requires.clock.2 c.join.ensures.both c.join-2.ensures.both c.close-ledger.ensures).2
