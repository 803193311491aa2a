use Rattle.std.proofs.Common.{◌≡◌, ◌<◌, false, [], sym, ◌∙◌, subst}
use Rattle.swap_world.specs.Value.{WorldState}
use Rattle.swap_many.specs.Laws.{CanHappen}
use Rattle.swap_many.specs.Value.{no_world, world_setup, nth_world, swept_slots}
use Rattle.swap_many.specs.Inside.{inside_worlds}
use Rattle.swap_many.proofs.Values.{item_is}
use Rattle.swap_many.proofs.Happened.{IsTaken, HasHappened, has_happened}
use Rattle.swap_many.proofs.worlds.Worlds.happen.Given as given
use Rattle.swap_many.proofs.worlds.Worlds.happen.Goals as goal
use Rattle.swap_many.proofs.worlds.Worlds.happen.Goals.{After-is_err-self-inside}

can : (g : given.Over) (c : goal.After-is_err-self-inside g) → CanHappen (world_setup (inside_worlds c.self.inside)) c.args.swap c.args.event.now
can g c = rw (← c.self.view_is) at c.requires.event

-- the worlds after the event
happened : (g : given.Over) (c : goal.After-is_err-self-inside g)
    → HasHappened (g.A.Strategies.gives c.args.strategies.now) (inside_worlds c.self.inside) c.args.swap c.args.event.now c.apply_step-told.new.self (can g c).swap
    c.apply_step-told.result c.is_err-self-inside.result
happened g c =
    let w = inside_worlds c.self.inside in
    let s = c.args.swap in
    let gives = g.A.Strategies.gives c.args.strategies.now in
    let may : CanHappen (world_setup w) s c.args.event.now = can g c in
    let on : w.stopped ≡ false = rw (← c.self.view_is) at c.requires.goes_on in
    let here = item_is w.worlds s no_world c.index_mut.result.now may.swap c.index_mut.ensures.value in
    let flags = item_is w.swept s [] c.index.result.now (subst (λ n. s < n) (sym c.self.invariant.whole.swept) may.swap) c.index.ensures in
    let taken : IsTaken gives (swept_slots w s) c.args.event.now (nth_world w s) c.apply_step-told.new.self c.apply_step-told.result =
    subst (λ (y : WorldState). IsTaken gives (swept_slots w s) c.args.event.now y c.apply_step-told.new.self c.apply_step-told.result) here
    (subst (λ f. IsTaken gives f c.args.event.now c.index_mut.result.now c.apply_step-told.new.self c.apply_step-told.result) (c.as_slice.ensures ∙ flags)
    (record {
      ok = c.apply_step-told.ensures.ok;
      told = c.apply_step-told.ensures.told;
      err = c.apply_step-told.ensures.err;
      cut = c.apply_step-told.ensures.cut;
      kept = c.apply_step-told.ensures.kept;
    })) in
    has_happened gives w s c.args.event.now c.apply_step-told.new.self may.swap c.apply_step-told.result c.is_err-self-inside.result
    c.is_err-self-inside.ensures.value on c.self.invariant.whole may taken

pub invariant_of-self : goal.invariant_of-self
invariant_of-self g c =
    record { whole = (happened g (goal.at.invariant_of-self g c).After-is_err-self-inside).all_whole; on = c.self.invariant.on }

pub returns-clause-ok : goal.returns-clause-ok
returns-clause-ok g c = rw (← c.self.view_is, c.make_reply.ensures) (happened g (goal.at.returns-clause-ok g c).After-is_err-self-inside).ok

pub returns-clause-reply : goal.returns-clause-reply
returns-clause-reply g c = rw (← c.self.view_is, c.make_reply.ensures) (happened g (goal.at.returns-clause-reply g c).After-is_err-self-inside).reply

pub returns-clause-err : goal.returns-clause-err
returns-clause-err g c = rw (← c.self.view_is, c.make_reply.ensures) (happened g (goal.at.returns-clause-err g c).After-is_err-self-inside).err
