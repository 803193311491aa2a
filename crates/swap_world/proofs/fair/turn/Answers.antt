use Rattle.std.proofs.Common.{◌<◌, true, false, replicate, refl, sym, ◌∙◌, subst}
use Rattle.swap_job.specs.declared.event.Event.TheVariants.{Act}
use Rattle.swap_run.specs.Fair.{acts, looks, most_acts}
use Rattle.swap_world.proofs.Ledgers.{on_ok, on_err}
use Rattle.swap_world.proofs.Ways.{if_err}
use Rattle.swap_world.proofs.Gone.{deal_gone, goes_on_gone, gone_as, held_gone, stopped_as, stopped_by}
use Rattle.swap_world.proofs.Finishes.{acts_as, acts_steps, turn_cut, turn_ends, turn_stops}
use Rattle.swap_world.proofs.fair.turn.Goals as goal

pub returns-in_err-look_around-clause-err : goal.returns-in_err-look_around-clause-err
returns-in_err-look_around-clause-err g c =
    if_err _ (turn_cut (g.A.Strategies.gives c.args.strategies.now) c.args.world.now c.look_around.new.world c.args.p c.in_err-look_around.ensures.err)

pub conforms-requires : goal.conforms-requires
conforms-requires g c =
    subst (λ d. c.args.p < d.graph.n) (sym (deal_gone (g.A.Strategies.gives c.args.strategies.now) (λ x s. looks x c.args.p s) c.args.world.now
    c.look_around.new.world c.in_ok-look_around.ensures.ok)) c.requires.party

pub act_to_rest-requires-clause-party : goal.act_to_rest-requires-clause-party
act_to_rest-requires-clause-party g c =
    subst (λ d. c.args.p < d.graph.n) (sym (deal_gone (g.A.Strategies.gives c.args.strategies.now) (λ x s. looks x c.args.p s) c.args.world.now
    c.look_around.new.world c.in_ok-look_around.ensures.ok)) c.requires.party

pub act_to_rest-requires-clause-goes_on : goal.act_to_rest-requires-clause-goes_on
act_to_rest-requires-clause-goes_on g c =
    goes_on_gone (g.A.Strategies.gives c.args.strategies.now) (λ x s. looks x c.args.p s) c.args.world.now c.look_around.new.world
    c.in_ok-look_around.ensures.ok c.requires.goes_on

pub returns-then-conforms-clause-err : goal.returns-then-conforms-clause-err
returns-then-conforms-clause-err g c =
    let gives = g.A.Strategies.gives c.args.strategies.now in
    let mid = c.look_around.new.world in
    on_err c.act_to_rest.result (λ k. turn_stops gives c.args.world.now mid c.act_to_rest.new.world c.args.p true
    (sym c.conforms.ensures ∙ c.if-conforms.true) c.in_ok-look_around.ensures.ok
    (stopped_as gives (λ x s. replicate (most_acts mid.deal) (Act c.args.p)) (λ x s. acts_steps true x.deal c.args.p) mid c.act_to_rest.new.world (λ a. refl)
    k)) c.act_to_rest.ensures.err

pub returns-then-conforms-clause-ok : goal.returns-then-conforms-clause-ok
returns-then-conforms-clause-ok g c =
    let gives = g.A.Strategies.gives c.args.strategies.now in
    let mid = c.look_around.new.world in
    on_ok c.act_to_rest.result (λ k. turn_ends gives c.args.world.now mid c.act_to_rest.new.world c.args.p true
    (sym c.conforms.ensures ∙ c.if-conforms.true) c.in_ok-look_around.ensures.ok
    (gone_as gives (λ x s. acts x c.args.p (most_acts mid.deal) s) (λ x s. acts_as true x c.args.p s) mid c.act_to_rest.new.world (λ a. refl) k))
    c.act_to_rest.ensures.ok

pub step-requires-clause-event : goal.step-requires-clause-event
step-requires-clause-event g c =
    subst (λ d. c.args.p < d.graph.n) (sym (deal_gone (g.A.Strategies.gives c.args.strategies.now) (λ x s. looks x c.args.p s) c.args.world.now
    c.look_around.new.world c.in_ok-look_around.ensures.ok)) c.requires.party

pub step-requires-clause-held : goal.step-requires-clause-held
step-requires-clause-held g c =
    held_gone (g.A.Strategies.gives c.args.strategies.now) (λ x s. looks x c.args.p s) c.args.world.now c.look_around.new.world _
    c.in_ok-look_around.ensures.ok c.requires.held

pub returns-clause-err : goal.returns-clause-err
returns-clause-err g c =
    let gives = g.A.Strategies.gives c.args.strategies.now in
    let mid = c.look_around.new.world in
    on_err c.step.result (turn_stops gives c.args.world.now mid c.step.new.self c.args.p false
    (sym c.conforms.ensures ∙ c.if-conforms.false) c.in_ok-look_around.ensures.ok)
    (stopped_by gives c.step.result mid c.step.new.self (Act c.args.p) (λ x s. acts_steps false x.deal c.args.p) (λ a. refl) c.step.ensures.err
    c.step.ensures.cut)

pub returns-clause-ok : goal.returns-clause-ok
returns-clause-ok g c =
    on_ok c.step.result (turn_ends (g.A.Strategies.gives c.args.strategies.now) c.args.world.now c.look_around.new.world c.step.new.self c.args.p false
    (sym c.conforms.ensures ∙ c.if-conforms.false) c.in_ok-look_around.ensures.ok) c.step.ensures.ok
