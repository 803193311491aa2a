use Rattle.std.proofs.Common.{◌∙◌, ◌<◌, List, ℕ, length, sym, ap, subst, arith}
use Rattle.swap_gen.proofs.Next.{arcs_some, arcs_few, party_below, touching_below, touching_at, touching_many, touching_few, tick_is, look_is, steps}
use Rattle.swap_gen.proofs.generator.Generator.next_event.Goals as goal

pub overflow_cast-arcs : goal.overflow_cast-arcs
overflow_cast-arcs c =
    let few = arcs_few c.self.inside c.self.invariant in
    let e = ap length c.arcs.ensures in
    omega (arith, few, e)

pub draw_bounded-requires : goal.draw_bounded-requires
draw_bounded-requires c =
    let some = arcs_some c.self.inside c.self.invariant in
    let e = ap length c.arcs.ensures in
    omega (arith, some, e)

pub bounds-as_slice-p : goal.bounds-as_slice-p
bounds-as_slice-p c =
    touching_below c.self.inside c.self.invariant c.draw_bounded-p.result c.as_slice.result.now c.as_slice.ensures
    (party_below c.self.inside c.self.invariant _ c.n.result c.draw_bounded-p.result c.n.ensures c.draw_bounded-p.ensures.word)

pub pick-requires-clause-some : goal.pick-requires-clause-some
pick-requires-clause-some c =
    let lt = party_below c.self.inside c.self.invariant _ c.n.result c.draw_bounded-p.result c.n.ensures c.draw_bounded-p.ensures.word in
    let e = c.as_slice-arcs.ensures ∙ touching_at c.self.inside c.self.invariant c.draw_bounded-p.result c.as_slice.result.now c.index-as_slice-p.result
    c.as_slice.ensures lt c.index-as_slice-p.is in
    subst (λ (xs : List ℕ). 0 < length xs) (sym e) (touching_many c.self.inside c.self.invariant c.draw_bounded-p.result lt)

pub pick-requires-clause-few : goal.pick-requires-clause-few
pick-requires-clause-few c =
    let lt = party_below c.self.inside c.self.invariant _ c.n.result c.draw_bounded-p.result c.n.ensures c.draw_bounded-p.ensures.word in
    let e = ap length (c.as_slice-arcs.ensures ∙ touching_at c.self.inside c.self.invariant c.draw_bounded-p.result c.as_slice.result.now c.index-as_slice-p.result
    c.as_slice.ensures lt c.index-as_slice-p.is) in
    let few = touching_few c.self.inside c.self.invariant c.draw_bounded-p.result in
    omega (arith, e, few)

pub returns-then-kind-eq0-clause-event : goal.returns-then-kind-eq0-clause-event
returns-then-kind-eq0-clause-event c =
    tick_is c.self.inside c.self.invariant c.args.self.now c.self.view_is c.draw-kind.result c.draw_bounded.result (length c.arcs.result.now) c.draw-kind.new.self
    c.draw-kind.ensures.word c.draw-kind.ensures.place c.if-kind-eq0.true (ap length c.arcs.ensures) c.draw_bounded.ensures.word

pub returns-then-kind-eq0-clause-fits : goal.returns-then-kind-eq0-clause-fits
returns-then-kind-eq0-clause-fits c = steps c.self.inside c.self.invariant c.args.self.now c.self.view_is _ (returns-then-kind-eq0-clause-event c)

pub returns-then-kind-le4-clause-event : goal.returns-then-kind-le4-clause-event
returns-then-kind-le4-clause-event c =
    let lt = party_below c.self.inside c.self.invariant _ c.n.result c.draw_bounded-p.result c.n.ensures c.draw_bounded-p.ensures.word in
    look_is c.self.inside c.self.invariant c.args.self.now c.self.view_is c.draw-kind.result c.draw_bounded-p.result c.pick.result c.n.result
    c.as_slice-arcs.result.now c.draw-kind.new.self c.draw_bounded-p.new.self
    c.draw-kind.ensures.word c.draw-kind.ensures.place c.if-kind-eq0.false c.if-kind-le4.true c.n.ensures c.draw_bounded-p.ensures.word c.draw_bounded-p.ensures.place
    (c.as_slice-arcs.ensures ∙ touching_at c.self.inside c.self.invariant c.draw_bounded-p.result c.as_slice.result.now c.index-as_slice-p.result c.as_slice.ensures
    lt c.index-as_slice-p.is)
    c.pick.ensures.arc

pub returns-then-kind-le4-clause-fits : goal.returns-then-kind-le4-clause-fits
returns-then-kind-le4-clause-fits c = steps c.self.inside c.self.invariant c.args.self.now c.self.view_is _ (returns-then-kind-le4-clause-event c)
