use Rattle.std.proofs.Common.{◌≡◌, ◌<◌, ℕ, List, [], length, slice_index_or, arith, sym, ◌∙◌, subst}
use Rattle.std.specs.List.{All}
use Rattle.std.specs.List.Sorted.{IsStrictlyIncreasing}
use Rattle.swap_world.specs.Value.{WorldState}
use Rattle.swap_many.specs.Ticking.{nth}
use Rattle.swap_many.specs.Value.{no_world}
use Rattle.swap_many.proofs.Values.{item_is}
use Rattle.swap_many.proofs.ticking.tick_worlds.Goals as goal

pub tick_ledgers-requires-clause-arcs : goal.tick_ledgers-requires-clause-arcs
tick_ledgers-requires-clause-arcs c =
    let s = c.swaps.s in
    let on = c.args.on.now in
    let ws = c.args.worlds.now.items in
    let l : s < length ws = omega (arith, c.swaps-test.true, c.len-s-end.ensures) in
    let there = c.as_slice.ensures ∙ item_is on s [] c.index-on-s.result (subst (λ n. s < n) (sym c.requires.fits.one_each) l) c.index-on-s.is in
    let low : s < length c.swaps.worlds.items = subst (λ n. s < n) (sym c.swaps.invariant.one_each) l in
    let here : c.index_mut.result.now ≡ nth ws s =
    item_is c.swaps.worlds.items s no_world c.index_mut.result.now low c.index_mut.ensures.value ∙ c.swaps.invariant.others s (omega arith) in
    subst (λ (xs : List ℕ). All (λ a. a < length c.index_mut.result.now.deal.graph.arcs) xs) (sym there)
    (subst (λ (y : WorldState). All (λ a. a < length y.deal.graph.arcs) (slice_index_or on s [])) (sym here) (c.requires.fits.arcs s l))

pub tick_ledgers-requires-clause-ascending : goal.tick_ledgers-requires-clause-ascending
tick_ledgers-requires-clause-ascending c =
    let s = c.swaps.s in
    let on = c.args.on.now in
    let l : s < length c.args.worlds.now.items = omega (arith, c.swaps-test.true, c.len-s-end.ensures) in
    let there = c.as_slice.ensures ∙ item_is on s [] c.index-on-s.result (subst (λ n. s < n) (sym c.requires.fits.one_each) l) c.index-on-s.is in
    subst IsStrictlyIncreasing (sym there) (c.requires.fits.ascending s l)
