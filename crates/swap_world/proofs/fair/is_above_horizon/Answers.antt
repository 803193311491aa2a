use Rattle.std.proofs.Common.{◌≡◌, ◌<◌, ◌≤◌, nat_lt, length, sym, lt-ltb, le-ltb}
use Rattle.ledger_core.specs.History.{height}
use Rattle.ledger_core.specs.Book.{history}
use Rattle.swap_run.specs.Fair.{the_horizon}
use Rattle.swap_world.proofs.Ways.{range_fails, range_holds_more, range_holds}
use Rattle.swap_world.proofs.fair.is_above_horizon.Goals as goal

pub returns-then-height-horizon : goal.returns-then-height-horizon
returns-then-height-horizon c =
    let w = c.args.world.now in
    let l : c.loop-arc.arc < length w.deal.graph.arcs = rw (← c.deal-2.ensures.value, ← c.arcs.ensures) c.loop-arc-test.true in
    let e : c.deal_horizon-horizon.result ≡ the_horizon w.deal = rw c.deal.ensures.value at c.deal_horizon-horizon.ensures in
    sym (range_fails (λ a. nat_lt (the_horizon w.deal) (height (history w.state.book a))) (length w.deal.graph.arcs) c.loop-arc.arc l
    (le-ltb _ _ (rw (← c.height.ensures, ← e) c.if-height-horizon.true)))

pub loop-arc-preserved : goal.loop-arc-preserved
loop-arc-preserved c =
    let w = c.args.world.now in
    let l : c.loop-arc.arc < length w.deal.graph.arcs = rw (← c.deal-2.ensures.value, ← c.arcs.ensures) c.loop-arc-test.true in
    let e : c.deal_horizon-horizon.result ≡ the_horizon w.deal = rw c.deal.ensures.value at c.deal_horizon-horizon.ensures in
    range_holds_more (λ a. nat_lt (the_horizon w.deal) (height (history w.state.book a))) (length w.deal.graph.arcs) c.loop-arc.arc l
    c.loop-arc.invariant (lt-ltb _ _ (rw (← c.height.ensures, ← e) c.if-height-horizon.false))

pub returns : goal.returns
returns c =
    let w = c.args.world.now in
    let l : length w.deal.graph.arcs ≤ c.loop-arc.arc = rw (← c.deal-2.ensures.value, ← c.arcs.ensures) c.loop-arc-test.false in
    sym (range_holds (λ a. nat_lt (the_horizon w.deal) (height (history w.state.book a))) (length w.deal.graph.arcs) c.loop-arc.arc l c.loop-arc.invariant)
