use Rattle.std.proofs.Common.{◌<◌, ◌≤◌, arith, nat_lt, length, sym, ap, ◌∙◌, lt-ltb, le-ltb}
use Rattle.std.specs.List.{list_all, range_with_len}
use Rattle.swap_world.proofs.Ways.{range_fails, range_holds_more, range_holds}
use Rattle.swap_many.specs.Value.{nth_chain}
use Rattle.swap_many.proofs.fair.have_ended.Goals as goal

pub returns-then-height-horizon : goal.returns-then-height-horizon
returns-then-height-horizon c =
    let w = c.args.worlds.now in
    let l : c.each.chain < length w.openings = omega (arith, c.each-test.true, c.chains-chain-end.ensures.openings) in
    sym (range_fails (λ i. nat_lt c.args.horizon (nth_chain w i).clock.height) (length w.openings) c.each.chain l
    (le-ltb _ _ (rw (← c.height.ensures) c.if-height-horizon.true)))
    ∙ ap (λ h. list_all (λ i. nat_lt h (nth_chain w i).clock.height) (range_with_len 0 (length w.openings))) c.requires

pub each-preserved : goal.each-preserved
each-preserved c =
    let w = c.args.worlds.now in
    let l : c.each.chain < length w.openings = omega (arith, c.each-test.true, c.chains-chain-end.ensures.openings) in
    range_holds_more (λ i. nat_lt c.args.horizon (nth_chain w i).clock.height) (length w.openings) c.each.chain l c.each.invariant
    (lt-ltb _ _ (rw (← c.height.ensures) c.if-height-horizon.false))

pub returns : goal.returns
returns c =
    let w = c.args.worlds.now in
    let l : length w.openings ≤ c.each.chain = omega (arith, c.each-test.false, c.chains-chain-end.ensures.openings) in
    sym (range_holds (λ i. nat_lt c.args.horizon (nth_chain w i).clock.height) (length w.openings) c.each.chain l c.each.invariant)
    ∙ ap (λ h. list_all (λ i. nat_lt h (nth_chain w i).clock.height) (range_with_len 0 (length w.openings))) c.requires
