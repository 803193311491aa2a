use Rattle.std.proofs.Common.{◌≡◌, ◌≢◌, ◌⊎◌, inl, inr, ℕ, ◌<◌, ◌+◌, [], arith, sym, ap, ◌∙◌, subst}
use Rattle.swap_rules.proofs.Prefixes.{same_or_not}
use Rattle.swap_world.specs.TouchingArcs.{all_adjacent}
use Rattle.swap_world.specs.Quiet.{IsQuietState}
use Rattle.swap_world.specs.Value.{WorldState, world_cast}
use Rattle.swap_many.specs.Ticking.{nth}
use Rattle.swap_many.specs.Value.{no_world}
use Rattle.swap_many.proofs.Values.{item_is}
use Rattle.swap_many.proofs.Skips.{still_less}
use Rattle.swap_many.proofs.quiet.rounds_still.Goals as goal

next : (P : ℕ → Type 0) (k s : ℕ) → (s < k → P s) → P k → s < k + 1 → (s ≡ k) ⊎ (s ≢ k) → P s
next P k s before now l (inl e) = subst P (sym e) now
next P k s before now l (inr n) = before (let q : ◌≢◌ {A = ℕ} s k = n in omega (arith, q, l))

pub swaps-init : goal.swaps-init
swaps-init c = record { few = omega arith; still = λ more s l. absurd (omega (arith, l)) }

pub bounds-near-s : goal.bounds-near-s
bounds-near-s c = subst (λ n. c.swaps.s < n) (sym c.requires.near.one_each) c.swaps-test.true

pub rest_rounds-rounds-requires-clause-near : goal.rest_rounds-rounds-requires-clause-near
rest_rounds-rounds-requires-clause-near c =
    let ws = c.args.worlds.now in
    let k = c.swaps.s in
    let here = item_is ws k no_world c.index-worlds-s.result c.swaps-test.true c.index-worlds-s.is in
    let there = item_is c.args.near.now k [] c.index-near-s.result (subst (λ n. k < n) (sym c.requires.near.one_each) c.swaps-test.true) c.index-near-s.is in
    c.as_slice.ensures ∙ (there ∙ (c.requires.near.each k c.swaps-test.true ∙ ap (λ (y : WorldState). all_adjacent y.deal) (sym here)))

pub rest_rounds-rounds-requires-clause-goes_on : goal.rest_rounds-rounds-requires-clause-goes_on
rest_rounds-rounds-requires-clause-goes_on c =
    let ws = c.args.worlds.now in
    let k = c.swaps.s in
    let here = item_is ws k no_world c.index-worlds-s.result c.swaps-test.true c.index-worlds-s.is in
    ap (λ (y : WorldState). y.stopped) here ∙ c.requires.go_on k c.swaps-test.true

pub swaps-preserved : goal.swaps-preserved
swaps-preserved c =
    let ws = c.args.worlds.now in
    let k = c.swaps.s in
    let n = c.rest_rounds-rounds.result in
    let less = c.rest_rounds-rounds.ensures.few in
    let few = c.swaps.invariant.few in
    let here = item_is ws k no_world c.index-worlds-s.result c.swaps-test.true c.index-worlds-s.is in
    record {
      few = omega (arith, less, few);
      still = λ more s l.
          next (λ s. IsQuietState (world_cast (nth ws s)) n (nth ws s).state) k s
          (λ low. still_less (world_cast (nth ws s)) c.swaps.rounds n (nth ws s).state less
          (c.swaps.invariant.still (omega (arith, more, less)) s low))
          (subst (λ (y : WorldState). IsQuietState (world_cast y) n y.state) here (c.rest_rounds-rounds.ensures.still more)) l (same_or_not s k);
    }

pub returns-clause-still : goal.returns-clause-still
returns-clause-still c = λ more s l.
    let high = c.swaps-test.false in
    c.swaps.invariant.still more s (omega (arith, l, high))
