use Rattle.std.proofs.Common.{◌<◌, length, sym, subst, ◌∙◌, arith, None}
use Rattle.party_threads.proofs.Passes.{any_default}
use Rattle.party_threads.proofs.clock.take_clock_turn.Goals as goal

pub tick-requires-clause-room : goal.tick-requires-clause-room
tick-requires-clause-room g c =
    let a = c.arcs.arc in
    let before : a < length c.args.passes.now = c.arcs-test.true in
    let below : a < length c.arcs.passes = subst (λ n. a < n) (sym c.arcs.invariant.places) before in
    c.requires.passes.room a c.in-Some.pass before
    (sym (c.arcs.invariant.left a (omega arith)) ∙ (any_default c.arcs.passes a None c.index-passes-arc.result below ∙ c.in-Some.is))
