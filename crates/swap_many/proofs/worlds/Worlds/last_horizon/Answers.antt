use Rattle.std.proofs.Common.{◌<◌, ◌≤◌, arith, length, max, refl, sym, ap₂, ◌∙◌}
use Rattle.swap_run.specs.Fair.{the_horizon}
use Rattle.swap_many.specs.Value.{nth_world}
use Rattle.swap_many.proofs.Turning.{greatest_more, greatest_all}
use Rattle.swap_many.proofs.worlds.Worlds.last_horizon.Goals as goal

pub swaps-init : goal.swaps-init
swaps-init c = (refl, omega arith)

pub swaps-preserved : goal.swaps-preserved
swaps-preserved c =
    let w = c.args.self.now in
    let i = c.swaps.invariant in
    let l : c.swaps.swap < length w.worlds = omega (arith, c.swaps-test.true, c.swaps-swap-end.ensures) in
    let g = c.greater-last.ensures in
    let a = i.1 in
    let b = c.horizon.ensures.few in (
      c.greater-last.ensures ∙ (ap₂ max i.0 c.horizon.ensures.value
          ∙ sym (greatest_more (λ s. the_horizon (nth_world w s).deal) (length w.worlds) c.swaps.swap l)),
      omega (arith, g, a, b),
    )

pub returns-clause-value : goal.returns-clause-value
returns-clause-value c =
    let w = c.args.self.now in
    let l : length w.worlds ≤ c.swaps.swap = omega (arith, c.swaps-test.false, c.swaps-swap-end.ensures) in
    c.swaps.invariant.0 ∙ greatest_all (λ s. the_horizon (nth_world w s).deal) (length w.worlds) c.swaps.swap l

pub returns-clause-few : goal.returns-clause-few
returns-clause-few c = c.swaps.invariant.1
