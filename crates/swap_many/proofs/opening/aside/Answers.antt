use Rattle.std.proofs.Common.{◌≡◌, ◌<◌, arith, [], List, length, sum_by, sym, ap₂, ◌∙◌, subst}
use Rattle.swap_digraph.specs.Graph.{arcs}
use Rattle.swap_world.specs.Value.{WorldState}
use Rattle.swap_many.specs.declared.place.Place.{Place}
use Rattle.swap_many.specs.Chains.{slot_funding}
use Rattle.swap_many.specs.Opening.{arc_funding, setup_of_worlds}
use Rattle.swap_many.specs.Ticking.{nth}
use Rattle.swap_many.specs.Value.{no_world}
use Rattle.swap_many.proofs.Values.{item_is}
use Rattle.swap_many.proofs.Begun.{sum_next}
use Rattle.swap_many.proofs.opening.aside.Goals as goal

pub swaps-preserved : goal.swaps-preserved
swaps-preserved c =
    let k = c.swaps.s in
    let ws = c.args.worlds.now in
    let inv = c.swaps.invariant in
    let l : k < length ws = c.swaps-test.true in
    let here = item_is ws k no_world c.index-worlds-s.result l c.index-worlds-s.is in
    let there = c.as_slice.ensures
    ∙ item_is c.args.places.now k [] c.index-places-s.result (subst (λ n. k < n) (sym c.requires.one_each) l) c.index-places-s.is in
    let m = setup_of_worlds ws c.args.places.now [] in
    let e : c.units_aside-sum.result ≡ sum_by (slot_funding m c.args.chain c.args.account k) (arcs (nth ws k).deal.graph) =
    c.units_aside-sum.ensures.value
    ∙ ap₂ (λ (y : WorldState) (ps : List Place). sum_by (arc_funding y.deal ps c.args.chain c.args.account) (arcs y.deal.graph)) here there in
    let a = inv.1 in
    let b = c.units_aside-sum.ensures.few in (
      sum_next (λ s. sum_by (slot_funding m c.args.chain c.args.account s) (arcs (nth ws s).deal.graph)) k c.swaps.sum c.units_aside-sum.result inv.0 e,
      omega (arith, a, b),
    )
