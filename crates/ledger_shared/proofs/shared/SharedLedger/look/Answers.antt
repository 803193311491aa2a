use Rattle.std.proofs.Common.{◌++◌, take, drop, refl, sym, ap, ◌∙◌}
use Rattle.ledger_shared.specs.Value.{party_made}
use Rattle.ledger_shared.proofs.Passes.{turned, unchanged, seen_whole, party_all, party_kept, party_sees, party_whole, party_foreign, counted_as}
use Rattle.ledger_shared.proofs.shared.SharedLedger.look.Goals as goal

pub give-requires-clause-further : goal.give-requires-clause-further
give-requires-clause-further g c = unchanged c.pass.inside.seat _ c.take-ledger.result.value _ c.take-ledger.ensures.turn refl

pub give-requires-in-Err-clause-further : goal.give-requires-in-Err-clause-further
give-requires-in-Err-clause-further g c = unchanged c.pass.inside.seat _ c.take-ledger.result.value _ c.take-ledger.ensures.turn refl

pub invariant_of-pass : goal.invariant_of-pass
invariant_of-pass g c =
    let p = c.pass.inside in
    party_all p c.pass.invariant c.give.new.seat _ _
    (turned p.seat _ _ _ _ c.take-ledger.ensures.turn c.give.ensures) c.take-ledger.ensures.ledger.longer
    (counted_as _ _ c.deref-in-Ok.result.now c.deref-in-Ok.ensures c.len-pass-inside.ensures)

pub invariant_of-pass-in-Err : goal.invariant_of-pass-in-Err
invariant_of-pass-in-Err g c =
    let p = c.pass.inside in
    party_kept p c.pass.invariant c.give-in-Err.new.seat c.take-ledger.result.value c.take-ledger.ensures.ledger
    (turned p.seat _ _ _ _ c.take-ledger.ensures.turn c.give-in-Err.ensures)

pub returns-in-Ok-clause-seen : goal.returns-in-Ok-clause-seen
returns-in-Ok-clause-seen g c =
    let p = c.pass.inside in
    rw (← c.pass.view_is)
    (party_sees p c.pass.invariant c.give.new.seat _ _ _ (turned p.seat _ _ _ _ c.take-ledger.ensures.turn c.give.ensures)
    (counted_as _ _ c.deref-in-Ok.result.now c.deref-in-Ok.ensures c.len-pass-inside.ensures)
    (sym (seen_whole p.seen p.seat.known _ c.pass.invariant.rests.within c.take-ledger.ensures.ledger.longer)
    ∙ ap (λ w. take p.seen p.seat.known ++ w) (sym (c.in-Ok.ensures.fresh ∙ ap (λ l. drop p.seen l.history) c.deref.ensures))))

pub returns-in-Ok-clause-foreign : goal.returns-in-Ok-clause-foreign
returns-in-Ok-clause-foreign g c =
    let p = c.pass.inside in
    rw (← c.pass.view_is)
    (ap (party_made p.party) (c.in-Ok.ensures.fresh ∙ ap (λ l. drop p.seen l.history) c.deref.ensures)
    ∙ party_foreign p c.pass.invariant c.take-ledger.result.value c.take-ledger.ensures.ledger)

pub returns-in-Ok-clause-whole : goal.returns-in-Ok-clause-whole
returns-in-Ok-clause-whole g c =
    let p = c.pass.inside in
    rw (← c.pass.view_is) (party_whole p c.pass.invariant c.give.new.seat _ _
    (turned p.seat _ _ _ _ c.take-ledger.ensures.turn c.give.ensures)
    (counted_as _ _ c.deref-in-Ok.result.now c.deref-in-Ok.ensures c.len-pass-inside.ensures) c.take-ledger.ensures.ledger.longer)
