use Rattle.std.proofs.Common.{◌≡◌, ◌≢◌, ◌⊎◌, ◌<◌, ◌+◌, ℕ, inl, inr, arith, Bool, false, List, ◌++◌, ◌∷◌, [], length, replicate, sym, ap, ◌∙◌, subst}
use Rattle.swap_rules.proofs.Prefixes.{same_or_not}
use Rattle.swap_digraph.specs.declared.deal.Deal.{Deal}
use Rattle.swap_run.specs.Laws.{IsReadyCast}
use Rattle.swap_world.specs.Value.{WorldState, world_cast}
use Rattle.swap_many.specs.Opening.{none_swept}
use Rattle.swap_many.specs.Ticking.{nth}
use Rattle.swap_many.specs.Value.{no_world}
use Rattle.swap_many.proofs.Values.{item_is}
use Rattle.swap_many.proofs.Begun.{map_next}
use Rattle.swap_many.proofs.opening.none_swept.Goals as goal

next : (P : ℕ → Type 0) (k : ℕ) → ((s : ℕ) → s < k → P s) → P k → (s : ℕ) → s < k + 1 → P s
next P k before now s l = go (same_or_not s k)
  where
    less : s ≢ k → s < k
    less n = omega (arith, n, l)

    go : (s ≡ k) ⊎ (s ≢ k) → P s
    go (inl e) = subst P (sym e) now
    go (inr n) = before s (less n)

pub swaps-preserved : goal.swaps-preserved
swaps-preserved c =
    let k = c.swaps.world-index in
    let ws = c.args.worlds.now in
    let inv = c.swaps.invariant in
    let l : k < length ws = c.swaps-test.true in
    let here = item_is ws k no_world c.world-item.result l c.world-item.is in
    let flags : c.in_ok-none.field-0 ≡ none_swept (nth ws k) =
    c.in_ok-none.ensures ∙ (ap (λ (xs : List _). replicate (length xs) false) c.arcs.ensures
    ∙ (ap (λ (d : Deal). replicate (length d.graph.arcs) false) c.deal.ensures.value ∙ ap none_swept here)) in (
      map_next none_swept ws k no_world c.swaps.all.items c.push.new.self.items l
          (c.in_ok-push.ensures.items ∙ ap (λ (x : List Bool). c.swaps.all.items ++ x ∷ []) flags) inv.0,
      next (λ s. IsReadyCast (world_cast (nth ws s))) k inv.1 (subst (λ (y : WorldState). IsReadyCast (world_cast y)) here c.deal.ensures.ready),
    )
