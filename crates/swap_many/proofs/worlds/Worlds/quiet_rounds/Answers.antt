use Rattle.std.proofs.Common.{◌≡◌, ◌<◌, ℕ, false, arith, refl, subst}
use Rattle.swap_run.specs.Asked.{Answers}
use Rattle.swap_world.specs.Value.{world_answers}
use Rattle.swap_many.specs.Fair.{have_ended, SkipsKeptRounds}
use Rattle.swap_many.specs.Many.{last_horizon}
use Rattle.swap_many.specs.Value.{ManyState, many_kept, world_setup, made_setup, nth_world}
use Rattle.swap_many.specs.Inside.{inside_worlds}
use Rattle.swap_many.proofs.Skips.{many_skip}
use Rattle.swap_many.proofs.worlds.Worlds.quiet_rounds.Goals as goal

pub rounds_still-requires-clause-near : goal.rounds_still-requires-clause-near
rounds_still-requires-clause-near c =
    rw c.deref-2.ensures.value (rw (← c.self.view_is) at c.requires.near)

pub rounds_still-requires-clause-go_on : goal.rounds_still-requires-clause-go_on
rounds_still-requires-clause-go_on c =
    rw c.deref-2.ensures.value (c.self.invariant.whole.on (rw (← c.self.view_is) at c.requires.goes_on))

pub returns-clause-skips : goal.returns-clause-skips
returns-clause-skips c =
    let w = inside_worlds c.self.inside in
    let n = c.rounds_still.result in
    let less = c.rounds_still.ensures.few in
    let goes_on : w.stopped ≡ false = rw (← c.self.view_is) at c.requires.goes_on in
    let on : have_ended (world_setup w) (many_kept w) ≡ false = rw (← c.self.view_is) at c.requires.low in
    let horizon : c.args.horizon ≡ last_horizon (world_setup w) = rw (← c.self.view_is) at c.requires.horizon in
    let low = rw c.deref.ensures.value at c.horizon_rounds-low.ensures.low in
    let still = rw c.deref-2.ensures.value at c.rounds_still.ensures.still in
    let r = c.self.invariant.whole.sound goes_on (λ t. world_answers (nth_world w t)) (λ t l i lt. refl) in
    subst (λ (w : ManyState). (g : ℕ → Answers) → SkipsKeptRounds (made_setup w g) n (many_kept w)) c.self.view_is (λ g.
    many_skip w g n (λ s l. (r.1.good s l).legal.one_each) on (λ more.
    let q = low (omega (arith, more, less)) in
    let high = q.2 in (
      q.0,
      subst (λ k. q.0 < k) c.self.invariant.whole.chains q.1,
      omega (arith, high, horizon, less),
    )) still)
