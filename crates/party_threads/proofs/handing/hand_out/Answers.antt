use Rattle.std.proofs.Common.{◌≡◌, ◌<◌, ◌≤◌, length, refl, sym, subst, arith}
use Rattle.party_threads.specs.Turns.{HasArc}
use Rattle.party_threads.proofs.Turning.{places_kept}
use Rattle.party_threads.proofs.Placing.{deal_begins, there_still, is_home, behind_still, free_still, deal_goes_on}
use Rattle.party_threads.proofs.handing.hand_out.Goals as goal

pub arcs-init : goal.arcs-init
arcs-init g c = deal_begins c.args.deal.now c.args.ledgers.now c.args.turns.now 0 c.new-shared.result.items refl c.new-shared.ensures.items c.requires.free

pub leave-ledger-requires : goal.leave-ledger-requires
leave-ledger-requires g c =
    let l : c.arcs.arc < length c.args.deal.now.graph.arcs = rw (← c.arcs-2.ensures) c.arcs-test.true in
    there_still c.args.deal.now c.args.ledgers.now c.args.turns.now c.arcs.arc c.arcs.ledgers c.arcs.turns c.arcs.shared.items c.arcs.invariant l
    c.requires.home

pub hand_out_one-requires-clause-ledger : goal.hand_out_one-requires-clause-ledger
hand_out_one-requires-clause-ledger g c =
    let l : c.arcs.arc < length c.args.deal.now.graph.arcs = rw (← c.arcs-2.ensures) c.arcs-test.true in
    is_home c.args.deal.now c.args.ledgers.now c.args.turns.now c.arcs.arc c.arcs.ledgers c.arcs.turns c.arcs.shared.items c.arcs.invariant l c.requires.home
    c.leave-ledger.result.value c.leave-ledger.ensures.ledger

pub hand_out_one-requires-clause-places : goal.hand_out_one-requires-clause-places
hand_out_one-requires-clause-places g c = places_kept c.args.deal.now c.args.turns.now c.arcs.turns c.arcs.invariant.shape c.requires.places

pub hand_out_one-requires-clause-arcs : goal.hand_out_one-requires-clause-arcs
hand_out_one-requires-clause-arcs g c = λ v lv.
    let l : c.arcs.arc < length c.args.deal.now.graph.arcs = rw (← c.arcs-2.ensures) c.arcs-test.true in
    subst (λ x. HasArc x c.arcs.arc) (sym (c.arcs.invariant.shape.actors v)) (c.requires.arcs v c.arcs.arc lv l)

pub hand_out_one-requires-clause-behind : goal.hand_out_one-requires-clause-behind
hand_out_one-requires-clause-behind g c =
    let l : c.arcs.arc < length c.args.deal.now.graph.arcs = rw (← c.arcs-2.ensures) c.arcs-test.true in
    behind_still c.args.deal.now c.args.ledgers.now c.args.turns.now c.arcs.arc c.arcs.ledgers c.arcs.turns c.arcs.shared.items c.arcs.invariant l
    c.requires.behind
    c.leave-ledger.result.value c.leave-ledger.ensures.ledger

pub hand_out_one-requires-clause-free : goal.hand_out_one-requires-clause-free
hand_out_one-requires-clause-free g c =
    let l : c.arcs.arc < length c.args.deal.now.graph.arcs = rw (← c.arcs-2.ensures) c.arcs-test.true in
    free_still c.args.deal.now c.args.ledgers.now c.args.turns.now c.arcs.arc c.arcs.ledgers c.arcs.turns c.arcs.shared.items c.arcs.invariant l

pub arcs-preserved : goal.arcs-preserved
arcs-preserved g c =
    let l : c.arcs.arc < length c.args.deal.now.graph.arcs = rw (← c.arcs-2.ensures) c.arcs-test.true in
    deal_goes_on c.args.deal.now c.args.ledgers.now c.args.turns.now c.arcs.arc c.arcs.ledgers c.arcs.turns c.arcs.shared.items c.arcs.invariant l
    c.leave-ledger.new.ledgers c.hand_out_one.new.turns c.push.new.self.items c.leave-ledger.result.value c.in_ok-one.one c.leave-ledger.ensures.ledger
    c.leave-ledger.ensures.number c.leave-ledger.ensures.others c.in_ok-one.ensures.dealt c.in_ok-one.ensures.clock c.hand_out_one.ensures.others
    c.in_ok-push.ensures.items

pub returns-clause-one_each : goal.returns-clause-one_each
returns-clause-one_each g c =
    let l : length c.args.deal.now.graph.arcs ≤ c.arcs.arc = rw (← c.arcs-2.ensures) c.arcs-test.false in
    let i = c.arcs.invariant in
    let n : length c.arcs.shared.items ≡ c.arcs.arc = i.many in
    let w : c.arcs.arc ≤ length c.args.deal.now.graph.arcs = i.within in
    omega (arith, n, w, l)
