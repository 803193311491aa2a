use Rattle.std.proofs.Common.{◌≡◌, ◌<◌, arith, length, ap₂, ◌∙◌}
use Rattle.swap_digraph.specs.declared.deal.Deal.{Deal}
use Rattle.swap_many.specs.declared.place.Place.{Place}
use Rattle.swap_many.specs.Chains.{nowhere}
use Rattle.swap_many.specs.Opening.{place_funding, arc_funding}
use Rattle.swap_many.proofs.Accounts.{any_default}
use Rattle.swap_many.proofs.Begun.{sum_next}
use Rattle.swap_many.proofs.opening.units_aside.Goals as goal

pub arcs-preserved : goal.arcs-preserved
arcs-preserved c =
    let k = c.arcs.arc in
    let inv = c.arcs.invariant in
    let l : k < length c.args.places.now = c.arcs-test.true in
    let e : c.paid_units-sum.result ≡ arc_funding c.args.world.now.deal c.args.places.now c.args.chain c.args.account k =
    c.paid_units-sum.ensures.value
    ∙ ap₂ (λ (d : Deal) (p : Place). place_funding d p c.args.chain c.args.account k) c.deal-deal.ensures.value (any_default c.args.places.now k _ nowhere l) in
    let a = inv.1 in
    let b = c.paid_units-sum.ensures.few in
    (sum_next (arc_funding c.args.world.now.deal c.args.places.now c.args.chain c.args.account) k c.arcs.sum c.paid_units-sum.result inv.0 e, omega (arith, a, b))
