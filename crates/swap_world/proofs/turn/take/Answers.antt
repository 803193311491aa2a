use Rattle.std.proofs.Common.{◌<◌, ◌==◌, ◌||◌, ℕ, length, Option, arith, sym, ap, ◌∙◌, subst}
use Rattle.std.specs.Prelude.{IsTrue}
use Rattle.ledger_core.specs.declared.entry.Call.{Call}
use Rattle.swap_digraph.specs.Deal.{party, counterparty}
use Rattle.ledger_core.specs.Book.{history}
use Rattle.ledger_core.specs.History.{IsLegal, fit}
use Rattle.swap_rules.specs.Machine.{Begins}
use Rattle.swap_run.specs.View.{IsPartyAnswer}
use Rattle.swap_run.specs.Run.{plan_with_ledger}
use Rattle.swap_world.specs.Acting.{histories, landed, taken, seen}
use Rattle.swap_world.specs.Inside.{IsArcLedger}
use Rattle.swap_world.specs.On.{is_slot_swept}
use Rattle.swap_world.proofs.Ledgers.{on_ok, history_at, book_ok}
use Rattle.swap_world.proofs.Rooms.{room_on}
use Rattle.swap_world.proofs.On.{landed_called, told_called}
use Rattle.swap_world.proofs.turn.take.Goals as goal
use Rattle.swap_world.proofs.turn.take.Goals.{After-index_mut}

pub index_mut-requires : goal.index_mut-requires
index_mut-requires c =
    let is = c.requires.may (c.in-Some.arc, c.in-Some.due) c.in-Some.is in
    omega (arith, is.arc, c.requires.ledgers.one_each, c.args.ledgers.now.ok)

-- The call and its ledger.
module _ (c : goal.After-index_mut) where
  may : IsPartyAnswer c.args.deal.now c.args.sender (c.in-Some.arc, c.in-Some.due)
  may = c.requires.may (c.in-Some.arc, c.in-Some.due) c.in-Some.is

  below : c.in-Some.arc < length c.args.ledgers.now.items
  below = subst (λ n. c.in-Some.arc < n) (sym c.requires.ledgers.one_each) may.arc

  its : IsArcLedger c.args.deal.now c.in-Some.arc c.index_mut.result.now
  its = c.requires.ledgers.each c.in-Some.arc c.index_mut.result.now below c.index_mut.ensures.value

pub make_planned-requires-clause-arc : goal.make_planned-requires-clause-arc
make_planned-requires-clause-arc c =
    subst (λ n. c.in-Some.arc < n) (sym c.requires.known) (may (goal.at.make_planned-requires-clause-arc c).After-index_mut).arc

pub make_planned-requires-clause-begins : goal.make_planned-requires-clause-begins
make_planned-requires-clause-begins c =
    subst (λ h. Begins (history c.args.planner.now.known c.in-Some.arc) h)
    (history_at c.args.ledgers.now.items c.in-Some.arc c.index_mut.result.now (below (goal.at.make_planned-requires-clause-begins c).After-index_mut)
    c.index_mut.ensures.value) (c.requires.begins c.in-Some.arc)

pub make_planned-requires-clause-of_the_two : goal.make_planned-requires-clause-of_the_two
make_planned-requires-clause-of_the_two c =
    let o = (goal.at.make_planned-requires-clause-of_the_two c).After-index_mut in
    let v = c.args.sender in
    subst (λ x. IsTrue ((v == party x c.index_mut.result.now.arc) || (v == counterparty x c.index_mut.result.now.arc))) (sym (its o).deal)
    (subst (λ y. IsTrue ((v == party c.args.deal.now y) || (v == counterparty c.args.deal.now y))) (sym (its o).arc) (may o).near)

pub make_planned-requires-clause-legal : goal.make_planned-requires-clause-legal
make_planned-requires-clause-legal c =
    let k = its (goal.at.make_planned-requires-clause-legal c).After-index_mut in
    let l = c.index_mut.result.now in
    subst (λ x. IsLegal x l.arc l.history) (sym k.deal) (subst (λ y. IsLegal c.args.deal.now y l.history) (sym k.arc) k.legal)

pub make_planned-requires-clause-fits : goal.make_planned-requires-clause-fits
make_planned-requires-clause-fits c =
    let o = (goal.at.make_planned-requires-clause-fits c).After-index_mut in
    subst (λ x. IsTrue (fit x c.index_mut.result.now.arc c.in-Some.due)) (sym (its o).deal)
    (subst (λ y. IsTrue (fit c.args.deal.now y c.in-Some.due)) (sym (its o).arc) (may o).fits)

pub returns-in-Some-clause-leaves : goal.returns-in-Some-clause-leaves
returns-in-Some-clause-leaves c =
    let o = (goal.at.returns-in-Some-clause-leaves c).After-index_mut in
    let d = c.args.deal.now in
    let ls = c.args.ledgers.now.items in
    let l = c.index_mut.result.now in
    let sw = is_slot_swept c.args.swept.now in
    let w = sw c.in-Some.arc in
    book_ok ls c.in-Some.arc l c.make_planned.new.ledger (landed w d c.in-Some.arc c.args.sender c.in-Some.due) (below o) c.index_mut.ensures.value
    (landed_called w d c.in-Some.arc c.args.sender c.in-Some.due l c.make_planned.new.ledger (its o)
    (rw c.is_swept-is.ensures at c.make_planned.ensures.leaves))
    ∙ ap (λ (o : Option (ℕ × Call)). taken sw d c.args.sender o (histories ls)) (sym c.in-Some.is)

pub returns-in-Some-clause-knows : goal.returns-in-Some-clause-knows
returns-in-Some-clause-knows c =
    let o = (goal.at.returns-in-Some-clause-knows c).After-index_mut in
    let d = c.args.deal.now in
    let ls = c.args.ledgers.now.items in
    let l = c.index_mut.result.now in
    let sw = is_slot_swept c.args.swept.now in
    let w = sw c.in-Some.arc in
    let n = c.args.planner.now in
    let same =
    ap (λ x. landed w x l.arc c.args.sender c.in-Some.due l.history) (its o).deal
    ∙ ap (λ x. landed w d x c.args.sender c.in-Some.due l.history) (its o).arc
    ∙ ap (λ h. landed w d c.in-Some.arc c.args.sender c.in-Some.due h) (sym (history_at ls c.in-Some.arc l (below o) c.index_mut.ensures.value)) in
    on_ok c.make_planned.result (λ e.
    e ∙ ap (λ h. plan_with_ledger n c.in-Some.arc h) same ∙ ap (λ (o : Option (ℕ × Call)). seen sw d c.args.sender o (histories ls) n) (sym c.in-Some.is))
    (rw c.is_swept-is.ensures at c.make_planned.ensures.knows)

pub returns-in-Some-clause-told : goal.returns-in-Some-clause-told
returns-in-Some-clause-told c =
    let o = (goal.at.returns-in-Some-clause-told c).After-index_mut in
    told_called c.make_planned.result (is_slot_swept c.args.swept.now) c.args.deal.now c.in-Some.arc c.args.sender c.in-Some.due c.args.made
    c.args.ledgers.now.items c.index_mut.result.now c.in-Some.is (below o) c.index_mut.ensures.value (its o)
    (rw c.is_swept-is.ensures at c.make_planned.ensures.told)

pub make_planned-requires-clause-room : goal.make_planned-requires-clause-room
make_planned-requires-clause-room c =
    c.requires.room c.in-Some.arc c.index_mut.result.now (below (goal.at.make_planned-requires-clause-room c).After-index_mut) c.index_mut.ensures.value

pub returns-in-Some-clause-room : goal.returns-in-Some-clause-room
returns-in-Some-clause-room c =
    room_on c.make_planned.result c.args.ledgers.now.items c.in-Some.arc c.make_planned.new.ledger c.requires.room c.make_planned.ensures.room
