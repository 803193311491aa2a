use Rattle.std.proofs.Common.{◌≡◌, List, true, false, map, sym, ap, ◌∙◌}
use Rattle.std.proofs.lemmas.Bool.{false≢true}
use Rattle.swap_many.specs.declared.many_event.ManyEvent.{ManyEvent}
use Rattle.swap_many.specs.Kept.{kept_done}
use Rattle.swap_many.specs.Laws.{CanCome}
use Rattle.swap_many.specs.Stages.{Came, stretch_stages}
use Rattle.swap_many.specs.Value.{world_setup}
use Rattle.swap_many.specs.Whole.{inside_many_state}
use Rattle.swap_many.proofs.Gone.{stopped_before}
use Rattle.swap_many.proofs.Runs as lemmas
use Rattle.swap_many.proofs.many_world.ManyWorld.step.Given as given
use Rattle.swap_many.proofs.many_world.ManyWorld.step.Goals as goal
use Rattle.swap_many.proofs.many_world.ManyWorld.step.Goals.{After-step-done}

-- the worlds after the event, and what came before it
taken : (g : given.Over) (c : goal.After-step-done g)
    → lemmas.HasTaken (g.A.Strategies.gives c.args.strategies.now) (λ m z. kept_done false m z c.args.event.now) (Came c.args.event.now)
    (inside_many_state c.self.inside)
    (record c.step-done.new.self { stages = stretch_stages (map (λ p. p.items) c.self.inside.stretches.items) c.and-events.result.items }) c.step-done.result
taken g c =
    let i = c.self.inside in
    let w = inside_many_state i in
    let e = c.args.event.now in
    let can : CanCome (world_setup w) e = rw (← c.self.view_is) at c.requires.event in
    let xs : List (List ManyEvent) = map (λ p. p.items) i.stretches.items in
    lemmas.has_taken (g.A.Strategies.gives c.args.strategies.now) (λ m z. kept_done false m z e) (Came e) i.worlds c.step-done.new.self w.stages
    (stretch_stages xs c.and-events.result.items) c.step-done.result (lemmas.step_is_stage w e c.self.invariant.whole.ready can) c.self.invariant.runs
    (ap (stretch_stages xs) c.and-events.ensures ∙ lemmas.came_more xs i.events.items e) (sym c.is_stopped.ensures ∙ c.if-is_stopped.false)
    c.step-done.ensures.ok c.step-done.ensures.err

pub returns-then-is_stopped-clause-err : goal.returns-then-is_stopped-clause-err
returns-then-is_stopped-clause-err g c =
    let w = inside_many_state c.self.inside in
    let e = c.args.event.now in
    let can : CanCome (world_setup w) e = rw (← c.self.view_is) at c.requires.event in
    let stopped : w.stopped ≡ true = sym c.is_stopped.ensures ∙ c.if-is_stopped.true in
    rw (← c.self.view_is)
    (stopped_before (g.A.Strategies.gives c.args.strategies.now) (λ m z. kept_done false m z e) w stopped c.self.invariant.whole.ready
    (lemmas.step_leads w e c.self.invariant.whole.ready can))

pub invariant_of-self : goal.invariant_of-self
invariant_of-self g c =
    let t = taken g (goal.at.invariant_of-self g c).After-step-done in
    record { whole = lemmas.whole_staged c.step-done.new.self _ c.keep.ensures; runs = t.runs }

pub returns-clause-ok : goal.returns-clause-ok
returns-clause-ok g c = rw (← c.self.view_is) (taken g (goal.at.returns-clause-ok g c).After-step-done).ok

pub returns-clause-reply : goal.returns-clause-reply
returns-clause-reply g c =
    let t = taken g (goal.at.returns-clause-reply g c).After-step-done in
    let can : CanCome (world_setup (inside_many_state c.self.inside)) c.args.event.now = rw (← c.self.view_is) at c.requires.event in
    rw (← c.self.view_is)
    (lemmas.then_reply _ _ _ _ c.args.event.now c.step-done.result c.self.invariant.whole.ready can c.self.invariant.runs t.on t.ok c.step-done.ensures.reply)

pub returns-clause-history : goal.returns-clause-history
returns-clause-history g c = (taken g (goal.at.returns-clause-history g c).After-step-done).follows

pub returns-clause-units : goal.returns-clause-units
returns-clause-units g c = (taken g (goal.at.returns-clause-units g c).After-step-done).placed

pub returns-clause-err : goal.returns-clause-err
returns-clause-err g c = rw (← c.self.view_is) (taken g (goal.at.returns-clause-err g c).After-step-done).err

pub returns-clause-cut : goal.returns-clause-cut
returns-clause-cut g c =
    let t = taken g (goal.at.returns-clause-cut g c).After-step-done in
    rw (← c.self.view_is)
    (lemmas.then_cut (g.A.Strategies.gives c.args.strategies.now) (λ m z. kept_done false m z c.args.event.now) _ _ c.step-done.result c.self.invariant.whole.ready c.self.invariant.runs t.err)

pub returns-then-is_stopped-clause-cut : goal.returns-then-is_stopped-clause-cut
returns-then-is_stopped-clause-cut g c =
    let stopped : (inside_many_state c.self.inside).stopped ≡ true = sym c.is_stopped.ensures ∙ c.if-is_stopped.true in
    rw (← c.self.view_is) (λ on. absurd (false≢true (sym on ∙ stopped)))
