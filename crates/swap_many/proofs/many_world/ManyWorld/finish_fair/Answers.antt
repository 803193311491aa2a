use Rattle.std.proofs.Common.{◌≡◌, true, map, sym, ◌∙◌}
use Rattle.std.proofs.lemmas.Bool.{false≢true}
use Rattle.swap_many.specs.Kept.{kept_finish}
use Rattle.swap_many.specs.Stages.{Finished, stretch_stages}
use Rattle.swap_many.specs.Whole.{inside_many_state}
use Rattle.swap_many.proofs.Gone.{on_ok, stopped_before}
use Rattle.swap_many.proofs.Runs as lemmas
use Rattle.swap_many.proofs.many_world.ManyWorld.finish_fair.Given as given
use Rattle.swap_many.proofs.many_world.ManyWorld.finish_fair.Goals as goal
use Rattle.swap_many.proofs.many_world.ManyWorld.finish_fair.Goals.{After-finish-done}

-- the worlds after the fair finish, and what came before it
taken : (g : given.Over) (c : goal.After-finish-done g)
    → lemmas.HasTaken (g.A.Strategies.gives c.args.strategies.now) kept_finish Finished (inside_many_state c.self.inside)
    (record c.finish-done.new.worlds { stages = stretch_stages (map (λ p. p.items) c.and-stretches.result.items) c.new-self-inside.result.items })
    c.finish-done.result
taken g c =
    let i = c.self.inside in
    let w = inside_many_state i in
    lemmas.has_taken (g.A.Strategies.gives c.args.strategies.now) kept_finish Finished i.worlds c.finish-done.new.worlds w.stages
    (stretch_stages (map (λ p. p.items) c.and-stretches.result.items) c.new-self-inside.result.items) c.finish-done.result
    (lemmas.finish_is_stage w c.self.invariant.whole.ready) c.self.invariant.runs
    (lemmas.stretch_more _ i.stretches.items c.and-stretches.result.items i.events c.new-self-inside.result.items c.and-stretches.ensures
    c.new-self-inside.ensures) (sym c.is_stopped.ensures ∙ c.if-is_stopped.false) c.finish-done.ensures.ok c.finish-done.ensures.err

pub returns-then-is_stopped-clause-err : goal.returns-then-is_stopped-clause-err
returns-then-is_stopped-clause-err g c =
    let w = inside_many_state c.self.inside in
    let stopped : w.stopped ≡ true = sym c.is_stopped.ensures ∙ c.if-is_stopped.true in
    rw (← c.self.view_is)
    (stopped_before (g.A.Strategies.gives c.args.strategies.now) kept_finish w stopped c.self.invariant.whole.ready
    (lemmas.finish_leads w c.self.invariant.whole.ready))

pub invariant_of-self : goal.invariant_of-self
invariant_of-self g c =
    let t = taken g (goal.at.invariant_of-self g c).After-finish-done in
    record { whole = lemmas.whole_staged c.finish-done.new.worlds _ c.keep-2.ensures; runs = t.runs }

pub returns-clause-ok : goal.returns-clause-ok
returns-clause-ok g c = rw (← c.self.view_is) (taken g (goal.at.returns-clause-ok g c).After-finish-done).ok

pub returns-clause-stages : goal.returns-clause-stages
returns-clause-stages g c =
    let t = taken g (goal.at.returns-clause-stages g c).After-finish-done in
    rw (← c.self.view_is) (on_ok c.finish-done.result (λ k. t.more) t.ok)

pub returns-clause-history : goal.returns-clause-history
returns-clause-history g c = (taken g (goal.at.returns-clause-history g c).After-finish-done).follows

pub returns-clause-units : goal.returns-clause-units
returns-clause-units g c = (taken g (goal.at.returns-clause-units g c).After-finish-done).placed

pub returns-clause-ended : goal.returns-clause-ended
returns-clause-ended g c =
    let t = taken g (goal.at.returns-clause-ended g c).After-finish-done in
    lemmas.then_ended _ _ _ c.finish-done.result c.self.invariant.whole.ready c.self.invariant.runs t.on t.ok

pub returns-clause-err : goal.returns-clause-err
returns-clause-err g c = rw (← c.self.view_is) (taken g (goal.at.returns-clause-err g c).After-finish-done).err

pub returns-clause-cut : goal.returns-clause-cut
returns-clause-cut g c =
    let t = taken g (goal.at.returns-clause-cut g c).After-finish-done in
    rw (← c.self.view_is)
    (lemmas.then_cut (g.A.Strategies.gives c.args.strategies.now) kept_finish _ _ c.finish-done.result c.self.invariant.whole.ready c.self.invariant.runs t.err)

pub returns-then-is_stopped-clause-cut : goal.returns-then-is_stopped-clause-cut
returns-then-is_stopped-clause-cut g c =
    let stopped : (inside_many_state c.self.inside).stopped ≡ true = sym c.is_stopped.ensures ∙ c.if-is_stopped.true in
    rw (← c.self.view_is) (λ on. absurd (false≢true (sym on ∙ stopped)))
