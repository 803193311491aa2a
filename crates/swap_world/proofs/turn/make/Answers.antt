use Rattle.std.proofs.Common.{◌≡◌, ◌<◌, ℕ, length, set, Option, Some, inr, sym, ap, ◌∙◌, subst}
use Rattle.std.specs.Prelude.{IsTrue}
use Rattle.ledger_core.specs.declared.entry.Call.{Call}
use Rattle.ledger_core.specs.History.{fit}
use Rattle.swap_job.specs.Resolved.{resolved}
use Rattle.swap_run.specs.View.{IsPartyAnswer}
use Rattle.swap_run.proofs.Scripts.{may_resolve}
use Rattle.swap_world.specs.Acting.{histories, landed, taken}
use Rattle.swap_world.specs.Inside.{IsArcLedger}
use Rattle.swap_world.specs.On.{is_slot_swept}
use Rattle.swap_world.proofs.Ledgers.{legal_book, book_ok}
use Rattle.swap_world.proofs.Rooms.{room_on}
use Rattle.swap_world.proofs.Ways.{if_ok, if_err}
use Rattle.swap_world.proofs.On.{landed_called, told_called}
use Rattle.swap_world.proofs.turn.make.Goals as goal
use Rattle.swap_world.proofs.turn.make.Goals.{After-index_mut, After-call}

-- The call and its ledger.
module _ (c : goal.After-index_mut) where
  comes : resolved c.args.deal.now c.args.seeds.now (histories c.args.ledgers.now.items) c.args.made.now.mv.now ≡ Some (c.in-Some.arc, c.in-Some.due)
  comes =
      ap (λ xs. resolved c.args.deal.now c.args.seeds.now (histories xs) c.args.made.now.mv.now) (sym c.deref.ensures.value)
      ∙ (sym c.in_ok-arc.ensures.exact ∙ c.in-Some.is)

  may : IsPartyAnswer c.args.deal.now c.args.made.now.sender (c.in-Some.arc, c.in-Some.due)
  may = may_resolve c.args.deal.now c.args.seeds.now c.args.made.now.sender (histories c.args.ledgers.now.items) c.args.made.now.mv.now
      (legal_book c.args.deal.now c.args.ledgers.now.items c.requires.ledgers) (record { fits = c.requires.fits; adjacent = c.requires.near })
      (c.in-Some.arc, c.in-Some.due) comes

  below : c.in-Some.arc < length c.args.ledgers.now.items
  below = subst (λ n. c.in-Some.arc < n) (sym c.requires.ledgers.one_each) may.arc

  its : IsArcLedger c.args.deal.now c.in-Some.arc c.index_mut.result.now
  its = c.requires.ledgers.each c.in-Some.arc c.index_mut.result.now below c.index_mut.ensures.value

pub call-requires-clause-fits : goal.call-requires-clause-fits
call-requires-clause-fits c =
    let o = (goal.at.call-requires-clause-fits c).After-index_mut in
    let k = its o in
    subst (λ x. IsTrue (fit x c.index_mut.result.now.arc c.in-Some.due)) (sym k.deal)
    (subst (λ y. IsTrue (fit c.args.deal.now y c.in-Some.due)) (sym k.arc) (may o).fits)

pub call-requires-clause-room : goal.call-requires-clause-room
call-requires-clause-room c =
    c.requires.room c.in-Some.arc c.index_mut.result.now (below (goal.at.call-requires-clause-room c).After-index_mut) c.index_mut.ensures.value

pub returns-in-Some-clause-room : goal.returns-in-Some-clause-room
returns-in-Some-clause-room c =
    room_on c.call.result c.args.ledgers.now.items c.in-Some.arc c.call.new.ledger c.requires.room c.call.ensures.room

-- The histories behind the call.
module _ (c : goal.After-call) (r : resolved c.args.deal.now c.args.seeds.now (histories c.args.ledgers.now.items) c.args.made.now.mv.now
    ≡ Some (c.in-Some.arc, c.in-Some.due)) (low : c.in-Some.arc < length c.args.ledgers.now.items)
    (k : IsArcLedger c.args.deal.now c.in-Some.arc c.index_mut.result.now)
  where
    gone : histories (set c.args.ledgers.now.items c.in-Some.arc c.call.new.ledger)
        ≡ taken (is_slot_swept c.args.swept.now) c.args.deal.now c.args.made.now.sender
        (resolved c.args.deal.now c.args.seeds.now (histories c.args.ledgers.now.items) c.args.made.now.mv.now) (histories c.args.ledgers.now.items)
    gone =
        let d = c.args.deal.now in
        let ls = c.args.ledgers.now.items in
        let w = is_slot_swept c.args.swept.now c.in-Some.arc in
        book_ok ls c.in-Some.arc c.index_mut.result.now c.call.new.ledger (landed w d c.in-Some.arc c.args.made.now.sender c.in-Some.due) low
        c.index_mut.ensures.value (landed_called w d c.in-Some.arc c.args.made.now.sender c.in-Some.due c.index_mut.result.now c.call.new.ledger k
        (rw c.is_swept-is.ensures at c.call.ensures.leaves))
        ∙ ap (λ (o : Option (ℕ × Call)). taken (is_slot_swept c.args.swept.now) d c.args.made.now.sender o (histories ls)) (sym r)

pub returns-in-Some-clause-ok : goal.returns-in-Some-clause-ok
returns-in-Some-clause-ok c =
    let at = goal.at.returns-in-Some-clause-ok c in
    let o = at.After-index_mut in
    if_ok c.call.result (gone at.After-call (comes o) (below o) (its o))

pub returns-in-Some-clause-err : goal.returns-in-Some-clause-err
returns-in-Some-clause-err c =
    let at = goal.at.returns-in-Some-clause-err c in
    let o = at.After-index_mut in
    if_err c.call.result (inr (gone at.After-call (comes o) (below o) (its o)))

pub returns-in-Some-clause-told : goal.returns-in-Some-clause-told
returns-in-Some-clause-told c =
    let o = (goal.at.returns-in-Some-clause-told c).After-index_mut in
    told_called c.call.result (is_slot_swept c.args.swept.now) c.args.deal.now c.in-Some.arc c.args.made.now.sender c.in-Some.due
    (resolved c.args.deal.now c.args.seeds.now (histories c.args.ledgers.now.items) c.args.made.now.mv.now) c.args.ledgers.now.items c.index_mut.result.now
    (comes o) (below o) c.index_mut.ensures.value (its o) (rw c.is_swept-is.ensures at c.call.ensures.told)
