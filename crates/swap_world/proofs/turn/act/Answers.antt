use Rattle.std.proofs.Common.{◌<◌, ℕ, List, length, Option, arith, inr, sym, ap, ◌∙◌, subst}
use Rattle.wallet_journal.specs.Stopped.{ShowsAll}
use Rattle.swap_world.specs.Journals.{IsDiskDuringSigning}
use Rattle.hashkey_path.specs.declared.hashkey.Hashkey.{Hashkey}
use Rattle.swap_world.specs.Inside.{IsArcLedger}
use Rattle.swap_world.proofs.Ledgers.{history_at}
use Rattle.swap_world.proofs.Ways.{if_err}
use Rattle.swap_world.specs.On.{is_slot_swept}
use Rattle.swap_world.proofs.Rooms.{room_set}
use Rattle.swap_world.proofs.Acts.{action, answered, still, book_is, machine_is, signed_is, told_is}
use Rattle.swap_world.proofs.turn.act.Goals as goal

pub index_mut-requires : goal.index_mut-requires
index_mut-requires c =
    let k : c.in-Some.arc < length c.args.machine.now.deal.graph.arcs =
    (c.requires.makable (action c.in-Some.arc c.in-Some.due)
    (answered c.args.machine.now c.in_ok-next.field-0 c.in-Some.arc c.in-Some.due c.in-Some.is c.in_ok-next.ensures.due)).arc in
    omega (arith, k, c.requires.ledgers.one_each, c.args.ledgers.now.ok)

pub make_due-requires-clause-ledger : goal.make_due-requires-clause-ledger
make_due-requires-clause-ledger c =
    let k =
    c.requires.makable (action c.in-Some.arc c.in-Some.due)
    (answered c.args.machine.now c.in_ok-next.field-0 c.in-Some.arc c.in-Some.due c.in-Some.is c.in_ok-next.ensures.due) in
    let below = subst (λ n. c.in-Some.arc < n) (sym c.requires.ledgers.one_each) k.arc in
    subst (λ d. IsArcLedger d c.in-Some.arc c.index_mut.result.now) (sym c.in_ok-next.ensures.same.deal)
    (c.requires.ledgers.each c.in-Some.arc c.index_mut.result.now below c.index_mut.ensures.value)

pub make_due-requires-clause-makable : goal.make_due-requires-clause-makable
make_due-requires-clause-makable c =
    let k =
    c.requires.makable (action c.in-Some.arc c.in-Some.due)
    (answered c.args.machine.now c.in_ok-next.field-0 c.in-Some.arc c.in-Some.due c.in-Some.is c.in_ok-next.ensures.due) in
    rw (c.in_ok-next.ensures.same.deal, c.in_ok-next.ensures.same.me) k

pub make_due-requires-clause-begins : goal.make_due-requires-clause-begins
make_due-requires-clause-begins c =
    let k =
    c.requires.makable (action c.in-Some.arc c.in-Some.due)
    (answered c.args.machine.now c.in_ok-next.field-0 c.in-Some.arc c.in-Some.due c.in-Some.is c.in_ok-next.ensures.due) in
    let below = subst (λ n. c.in-Some.arc < n) (sym c.requires.ledgers.one_each) k.arc in
    rw (c.in_ok-next.ensures.same.known, sym (history_at c.args.ledgers.now.items c.in-Some.arc c.index_mut.result.now below c.index_mut.ensures.value))
    (c.requires.begins c.in-Some.arc)

pub returns-in-None-clause-knows : goal.returns-in-None-clause-knows
returns-in-None-clause-knows c =
    still (is_slot_swept c.args.swept.now) c.args.machine.now c.next.new.machine c.in_ok-next.field-0 _ c.in-None.is c.in_ok-next.ensures.due
    c.in_ok-next.ensures.same (λ i. ap (λ (f : ℕ → Option Hashkey). f i) c.in_ok-next.ensures.signed)

pub returns-in_ok-told-in-Some-clause-ok : goal.returns-in_ok-told-in-Some-clause-ok
returns-in_ok-told-in-Some-clause-ok c =
    let next = answered c.args.machine.now c.in_ok-next.field-0 c.in-Some.arc c.in-Some.due c.in-Some.is c.in_ok-next.ensures.due in
    let below = subst (λ n. c.in-Some.arc < n) (sym c.requires.ledgers.one_each) (c.requires.makable (action c.in-Some.arc c.in-Some.due) next).arc in
    book_is (is_slot_swept c.args.swept.now) c.args.machine.now c.next.new.machine c.args.ledgers.now.items c.in-Some.arc c.in-Some.due c.index_mut.result.now
    c.in_ok-next.ensures.same below c.index_mut.ensures.value next
    c.make_due.new.ledger (rw c.is_swept-is.ensures at c.make_due.ensures.leaves)

pub returns-in_ok-told-in-Some-clause-knows : goal.returns-in_ok-told-in-Some-clause-knows
returns-in_ok-told-in-Some-clause-knows c =
    let next = answered c.args.machine.now c.in_ok-next.field-0 c.in-Some.arc c.in-Some.due c.in-Some.is c.in_ok-next.ensures.due in
    let below = subst (λ n. c.in-Some.arc < n) (sym c.requires.ledgers.one_each) (c.requires.makable (action c.in-Some.arc c.in-Some.due) next).arc in
    machine_is (is_slot_swept c.args.swept.now) c.args.machine.now c.next.new.machine c.args.ledgers.now.items c.in-Some.arc c.in-Some.due c.index_mut.result.now
    c.in_ok-next.ensures.same below c.index_mut.ensures.value next
    c.make_due.new.machine (λ i. ap (λ (f : ℕ → Option Hashkey). f i) (rw c.in-Some.is at c.in_ok-next.ensures.signed))
    (rw c.is_swept-is.ensures at c.in_ok-told-in-Some.ensures.knows)

pub returns-in_err-told-in-Some-clause-err : goal.returns-in_err-told-in-Some-clause-err
returns-in_err-told-in-Some-clause-err c =
    let next = answered c.args.machine.now c.in_ok-next.field-0 c.in-Some.arc c.in-Some.due c.in-Some.is c.in_ok-next.ensures.due in
    let below = subst (λ n. c.in-Some.arc < n) (sym c.requires.ledgers.one_each) (c.requires.makable (action c.in-Some.arc c.in-Some.due) next).arc in
    if_err _ (inr (
    book_is (is_slot_swept c.args.swept.now) c.args.machine.now c.next.new.machine c.args.ledgers.now.items c.in-Some.arc c.in-Some.due c.index_mut.result.now
    c.in_ok-next.ensures.same below c.index_mut.ensures.value next
    c.make_due.new.ledger (rw c.is_swept-is.ensures at c.make_due.ensures.leaves)))

pub returns-in_ok-told-in-Some-clause-told : goal.returns-in_ok-told-in-Some-clause-told
returns-in_ok-told-in-Some-clause-told c =
    let next = answered c.args.machine.now c.in_ok-next.field-0 c.in-Some.arc c.in-Some.due c.in-Some.is c.in_ok-next.ensures.due in
    let below = subst (λ n. c.in-Some.arc < n) (sym c.requires.ledgers.one_each) (c.requires.makable (action c.in-Some.arc c.in-Some.due) next).arc in
    told_is (is_slot_swept c.args.swept.now) c.args.machine.now c.next.new.machine c.args.ledgers.now.items c.in-Some.arc c.in-Some.due c.index_mut.result.now
    c.in_ok-next.ensures.same below c.index_mut.ensures.value next
    c.in_ok-told-in-Some.told (rw c.is_swept-is.ensures at c.in_ok-told-in-Some.ensures.told)

pub make_due-requires-clause-room : goal.make_due-requires-clause-room
make_due-requires-clause-room c =
    let k =
    c.requires.makable (action c.in-Some.arc c.in-Some.due)
    (answered c.args.machine.now c.in_ok-next.field-0 c.in-Some.arc c.in-Some.due c.in-Some.is c.in_ok-next.ensures.due) in
    c.requires.room c.in-Some.arc c.index_mut.result.now (subst (λ n. c.in-Some.arc < n) (sym c.requires.ledgers.one_each) k.arc) c.index_mut.ensures.value

pub returns-in_ok-told-in-Some-clause-room : goal.returns-in_ok-told-in-Some-clause-room
returns-in_ok-told-in-Some-clause-room c =
    room_set c.args.ledgers.now.items c.in-Some.arc c.make_due.new.ledger c.requires.room c.in_ok-told-in-Some.ensures.room

pub returns-in_err-told-in-Some-clause-made : goal.returns-in_err-told-in-Some-clause-made
returns-in_err-told-in-Some-clause-made c =
    let next = answered c.args.machine.now c.in_ok-next.field-0 c.in-Some.arc c.in-Some.due c.in-Some.is c.in_ok-next.ensures.due in
    let below = subst (λ n. c.in-Some.arc < n) (sym c.requires.ledgers.one_each) (c.requires.makable (action c.in-Some.arc c.in-Some.due) next).arc in
    let same = c.make_due.ensures.signed in
    if_err _ (inr (
      book_is (is_slot_swept c.args.swept.now) c.args.machine.now c.next.new.machine c.args.ledgers.now.items c.in-Some.arc c.in-Some.due c.index_mut.result.now
          c.in_ok-next.ensures.same below c.index_mut.ensures.value next
          c.make_due.new.ledger (rw c.is_swept-is.ensures at c.make_due.ensures.leaves),
      same ∙ signed_is (is_slot_swept c.args.swept.now) c.args.machine.now c.next.new.machine c.args.ledgers.now.items c.in-Some.arc c.in-Some.due
          c.index_mut.result.now c.in_ok-next.ensures.same below c.index_mut.ensures.value next
          (λ i. ap (λ (f : ℕ → Option Hashkey). f i) (rw c.in-Some.is at c.in_ok-next.ensures.signed)),
      subst (λ (l : List (Option Hashkey)). ShowsAll l c.next.new.journal.disk.held) (c.in_ok-next.ensures.journal.has ∙ sym same)
          c.in_ok-next.ensures.journal.shows,
    ))

pub returns-in_err-told-in-Some-clause-between : goal.returns-in_err-told-in-Some-clause-between
returns-in_err-told-in-Some-clause-between c =
    if_err _ (subst (λ (l : List (Option Hashkey)). IsDiskDuringSigning c.args.machine.now.signed l c.next.new.journal.disk.held) (sym c.make_due.ensures.signed)
    c.next.ensures.between)
