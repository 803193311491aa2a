use Rattle.std.proofs.Common.{◌<◌, ℕ, List, ◌++◌, ◌∷◌, [], length, sym, ap, ◌∙◌, subst}
use Rattle.swap_many.specs.declared.place.Place.{Place}
use Rattle.swap_many.specs.Inside.{stands}
use Rattle.swap_many.proofs.Values.{item_is}
use Rattle.swap_many.proofs.Begun.{map_next}
use Rattle.swap_many.proofs.opening.stand.Goals as goal

pub swaps-preserved : goal.swaps-preserved
swaps-preserved c =
    let k = c.swaps.s in
    let ps = c.args.places.now in
    let l : k < length ps = subst (λ n. k < n) (sym c.requires.one_each) c.swaps-test.true in
    let there = c.as_slice.ensures ∙ item_is ps k [] c.index-places-s.result l c.index-places-s.is in
    map_next (stands c.args.chain) ps k [] c.swaps.on.items c.push.new.self.items l
    (c.in_ok-push.ensures.items ∙ ap (λ (x : List ℕ). c.swaps.on.items ++ x ∷ [])
    (c.in_ok-stands.ensures ∙ ap (λ (xs : List Place). stands c.args.chain xs) there)) c.swaps.invariant
