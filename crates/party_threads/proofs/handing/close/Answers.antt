use Rattle.std.proofs.Common.{rules, ◌≡◌, ◌<◌, length, sym, subst, arith}
use Rattle.party_threads.proofs.Turning.{places_kept}
use Rattle.party_threads.proofs.Placing.{close_begins, place_below, set_here, close_goes_on}
use Rattle.party_threads.proofs.handing.close.Goals as goal

pub ledgers-init : goal.ledgers-init
ledgers-init c = close_begins c.args.deal.now c.args.turns.now c.args.shared.items c.args.ledgers.now c.requires.one_each c.requires.number

pub close_one-one-requires-clause-places : goal.close_one-one-requires-clause-places
close_one-one-requires-clause-places c = places_kept c.args.deal.now c.args.turns.now c.ledgers.turns c.ledgers.invariant.shape c.requires.places

pub close_one-one-requires-clause-arc : goal.close_one-one-requires-clause-arc
close_one-one-requires-clause-arc c =
    let place : c.len-arc.result ≡ length c.pop.new.self.items = search rules in
    subst (λ n. n < length c.args.deal.now.graph.arcs) (sym place)
    (place_below c.args.deal.now c.args.turns.now c.args.shared.items c.ledgers.shared.items c.pop.new.self.items c.ledgers.ledgers c.ledgers.turns
    c.in-Some.ledger
    c.ledgers.invariant c.in-Some.ensures.items c.requires.one_each)

pub close_one-one-requires-clause-set : goal.close_one-one-requires-clause-set
close_one-one-requires-clause-set c =
    let place : c.len-arc.result ≡ length c.pop.new.self.items = search rules in
    rw place
    (set_here c.args.deal.now c.args.turns.now c.args.shared.items c.ledgers.shared.items c.pop.new.self.items c.ledgers.ledgers c.ledgers.turns
    c.in-Some.ledger
    c.ledgers.invariant c.in-Some.ensures.items c.requires.one_each c.requires.set)

pub ledgers-preserved : goal.ledgers-preserved
ledgers-preserved c =
    let place : c.len-arc.result ≡ length c.pop.new.self.items = search rules in
    close_goes_on c.args.deal.now c.args.turns.now c.args.shared.items c.ledgers.shared.items c.pop.new.self.items c.ledgers.ledgers c.ledgers.turns
    c.in-Some.ledger
    c.ledgers.invariant c.in-Some.ensures.items c.requires.one_each c.come_home.new.ledgers c.close_one-one.new.turns c.close_one-one.result.value
    (rw place at c.close_one-one.ensures.closed) (rw place at c.close_one-one.ensures.free) (rw place at c.close_one-one.ensures.others)
    (rw place at c.come_home.ensures.ledger) c.come_home.ensures.number (rw place at c.come_home.ensures.others)

pub returns-clause-free : goal.returns-clause-free
returns-clause-free c =
    let none : length c.ledgers.shared.items ≡ 0 = search rules in
    λ a lt. c.ledgers.invariant.free a (omega (arith, none)) lt
