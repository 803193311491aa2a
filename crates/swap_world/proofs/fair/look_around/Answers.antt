use Rattle.std.proofs.Common.{◌≡◌, ◌∙◌, ℕ, ◌<◌, List, ◌∷◌, [], length, map, get_or, slice_index, fold, take, refl, sym, ap, subst}
use Rattle.std.proofs.lemmas.List.Elements.{All-get_or, All-same}
use Rattle.swap_digraph.specs.declared.deal.Deal.{Deal}
use Rattle.swap_job.specs.declared.event.Event.TheVariants.{Look}
use Rattle.swap_job.specs.Step.{CanLook}
use Rattle.swap_run.specs.Run.{Cast, State, step}
use Rattle.swap_run.specs.Fair.{adjacent_arcs, looks}
use Rattle.swap_run.specs.Steps.{look_steps}
use Rattle.swap_world.specs.Value.{answering_cast}
use Rattle.swap_world.proofs.Ways.{if_err, over, over_looks}
use Rattle.swap_world.proofs.Gone.{begun, can_gone, gone_as, held_gone, stopped_as, stopped_in}
use Rattle.swap_world.proofs.Loops.{list_on, list_done, list_stops}
use Rattle.swap_world.proofs.Finishes.{looks_over, can_look}
use Rattle.swap_world.proofs.Idle.{any_default}
use Rattle.swap_world.proofs.fair.look_around.Goals as goal

-- what a look does
abbrev look_at : ℕ → Cast → State → ℕ → State
look_at p c s a = step c s (Look p a)

-- the arc that stands there
item : (xs : List ℕ) (k : ℕ) → k < length xs → slice_index xs k ≡ get_or xs k (slice_index xs k)
item xs k l = any_default xs k 0 (slice_index xs k) l

-- an arc of the list can be looked at
can_at : (d : Deal) (p k x : ℕ) (xs : List ℕ) → p < d.graph.n → xs ≡ adjacent_arcs d p → k < length xs → x ≡ get_or xs k x → CanLook d p x
can_at d p k x xs l e lt is = subst (CanLook d p) (sym is) (All-get_or (CanLook d p) xs k x lt
    (All-same (CanLook d p) xs (adjacent_arcs d p) e (can_look d p l)))

pub arcs-init : goal.arcs-init
arcs-init g c = begun (g.A.Strategies.gives c.args.strategies.now) c.args.world.now

pub step-requires-clause-event : goal.step-requires-clause-event
step-requires-clause-event g c =
    let w = c.args.world.now in
    can_gone (g.A.Strategies.gives c.args.strategies.now) (λ x s. fold (look_at c.args.p x) s (take c.arcs.arc-index c.args.near.now)) w c.arcs.world
    (Look c.args.p (slice_index c.args.near.now c.arcs.arc-index)) c.arcs.invariant
    (can_at w.deal c.args.p c.arcs.arc-index (slice_index c.args.near.now c.arcs.arc-index) c.args.near.now c.requires.party c.requires.near
    c.arcs-test.true (item c.args.near.now c.arcs.arc-index c.arcs-test.true))

pub step-requires-clause-held : goal.step-requires-clause-held
step-requires-clause-held g c =
    held_gone (g.A.Strategies.gives c.args.strategies.now) (λ x s. fold (look_at c.args.p x) s (take c.arcs.arc-index c.args.near.now)) c.args.world.now
    c.arcs.world _ c.arcs.invariant c.requires.held

pub arcs-preserved : goal.arcs-preserved
arcs-preserved g c =
    list_on (g.A.Strategies.gives c.args.strategies.now) (look_at c.args.p) c.args.world.now c.arcs.world c.step.new.self c.args.near.now c.arcs.arc-index
    (slice_index c.args.near.now c.arcs.arc-index) c.arcs.invariant c.arcs-test.true (item c.args.near.now c.arcs.arc-index c.arcs-test.true)
    c.in_ok-step.ensures.ok

pub returns-in_err-step-clause-err : goal.returns-in_err-step-clause-err
returns-in_err-step-clause-err g c =
    let gives = g.A.Strategies.gives c.args.strategies.now in
    let w = c.args.world.now in
    let mid = c.arcs.world in
    let new = c.step.new.self in
    let p = c.args.p in
    let near = c.args.near.now in
    if_err _ (stopped_as gives (λ x s. over (look_at p x) (λ t a. Look p a ∷ []) s near) (λ x s. look_steps x.deal p) w new
    (λ a. over_looks (answering_cast w a) p near w.state ∙ ap (λ (xs : List ℕ). map (λ a. Look p a) xs) c.requires.near)
    (list_stops gives (look_at p) w mid new near c.arcs.arc-index (slice_index c.args.near.now c.arcs.arc-index) c.arcs.invariant
    (λ x s a. Look p a ∷ []) c.arcs-test.true (item c.args.near.now c.arcs.arc-index c.arcs-test.true) (λ a s y. refl)
    (stopped_in gives mid new (Look p (slice_index c.args.near.now c.arcs.arc-index)) c.in_err-step.ensures.err c.in_err-step.ensures.cut)))

pub returns-clause-ok : goal.returns-clause-ok
returns-clause-ok g c =
    let gives = g.A.Strategies.gives c.args.strategies.now in
    let w = c.args.world.now in
    gone_as gives (λ x s. fold (look_at c.args.p x) s c.args.near.now) (λ x s. looks x c.args.p s) w c.arcs.world
    (λ a. looks_over (answering_cast w a) c.args.p w.state c.args.near.now c.requires.near)
    (list_done gives (look_at c.args.p) w c.arcs.world c.args.near.now c.arcs.arc-index c.arcs-test.false c.arcs.invariant)
