use Rattle.std.proofs.Common.{false, sym, subst, ap, ◌∙◌}
use Rattle.ledger_shared.specs.Seat.{IsContinued, knowing}
use Rattle.ledger_shared.proofs.Passes.{turned, longer, unchanged, seen_grows, party_all, party_kept, party_sees, party_whole, party_called, party_continued}
use Rattle.ledger_shared.proofs.Passes.{goes_as, turned_as, counted_as}
use Rattle.ledger_shared.proofs.shared.SharedLedger.call_known.Goals as goal

pub give-requires-clause-further : goal.give-requires-clause-further
give-requires-clause-further g c =
    let p = c.pass.inside in
    let l = c.deref_mut.result.now in
    subst (λ s. IsContinued s c.call_at_end.new.ledger.history)
    (sym (turned_as p.seat _ c.take-ledger.result.value l c.deref_mut.ensures.value c.take-ledger.ensures.turn))
    (party_continued p c.pass.invariant l c.call_at_end.new.ledger.history _ _
    (goes_as p.seat c.take-ledger.result.value l c.deref_mut.ensures.value c.take-ledger.ensures.ledger) c.in-Ok.ensures.history)

pub give-requires-in-Err-clause-further : goal.give-requires-in-Err-clause-further
give-requires-in-Err-clause-further g c =
    let l = c.deref_mut.result.now in
    unchanged c.pass.inside.seat _ l _
    (turned_as c.pass.inside.seat _ c.take-ledger.result.value l c.deref_mut.ensures.value c.take-ledger.ensures.turn) c.in-Err.ensures.kept

pub invariant_of-pass : goal.invariant_of-pass
invariant_of-pass g c =
    let p = c.pass.inside in
    let goes = goes_as p.seat c.take-ledger.result.value c.deref_mut.result.now c.deref_mut.ensures.value c.take-ledger.ensures.ledger in
    party_all p c.pass.invariant c.give.new.seat _ _ (turned p.seat _ _ _ _ c.take-ledger.ensures.turn c.give.ensures)
    (longer _ _ _ _ goes.longer c.in-Ok.ensures.history) (counted_as _ _ c.deref.result.now c.deref.ensures c.len-pass-inside.ensures)

pub invariant_of-pass-in-Err : goal.invariant_of-pass-in-Err
invariant_of-pass-in-Err g c =
    let p = c.pass.inside in
    let l = c.deref_mut.result.now in
    let new = turned p.seat _ _ _ _ c.take-ledger.ensures.turn c.give-in-Err.ensures in
    party_kept p c.pass.invariant c.give-in-Err.new.seat l
    (goes_as p.seat c.take-ledger.result.value l c.deref_mut.ensures.value c.take-ledger.ensures.ledger)
    (new ∙ ap (λ h. knowing p.seat false h) c.in-Err.ensures.kept)

pub returns-in-Ok-clause-called : goal.returns-in-Ok-clause-called
returns-in-Ok-clause-called g c =
    let p = c.pass.inside in
    let l = c.deref_mut.result.now in
    rw (← c.pass.view_is)
    (party_called p c.pass.invariant l _ _ _
    (goes_as p.seat c.take-ledger.result.value l c.deref_mut.ensures.value c.take-ledger.ensures.ledger) c.in-Ok.ensures.reply c.in-Ok.ensures.fresh)

pub returns-in-Ok-clause-seen : goal.returns-in-Ok-clause-seen
returns-in-Ok-clause-seen g c =
    let p = c.pass.inside in
    let goes = goes_as p.seat c.take-ledger.result.value c.deref_mut.result.now c.deref_mut.ensures.value c.take-ledger.ensures.ledger in
    rw (← c.pass.view_is)
    (party_sees p c.pass.invariant c.give.new.seat _ _ _ (turned p.seat _ _ _ _ c.take-ledger.ensures.turn c.give.ensures)
    (counted_as _ _ c.deref.result.now c.deref.ensures c.len-pass-inside.ensures)
    (seen_grows p.seen p.seat.known _ _ _ _ c.pass.invariant.rests.within goes.longer c.in-Ok.ensures.history c.in-Ok.ensures.fresh))

pub returns-in-Ok-clause-whole : goal.returns-in-Ok-clause-whole
returns-in-Ok-clause-whole g c =
    let p = c.pass.inside in
    let goes = goes_as p.seat c.take-ledger.result.value c.deref_mut.result.now c.deref_mut.ensures.value c.take-ledger.ensures.ledger in
    rw (← c.pass.view_is)
    (party_whole p c.pass.invariant c.give.new.seat _ _ (turned p.seat _ _ _ _ c.take-ledger.ensures.turn c.give.ensures)
    (counted_as _ _ c.deref.result.now c.deref.ensures c.len-pass-inside.ensures) (longer _ _ _ _ goes.longer c.in-Ok.ensures.history))
