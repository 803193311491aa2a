use Rattle.std.proofs.Common.{◌≡◌, ◌<◌, ℕ, true, ◌∷◌, [], replicate, arith, sym, ◌∙◌, subst}
use Rattle.swap_job.specs.declared.event.Event.TheVariants.{Act}
use Rattle.swap_run.specs.Run.{Cast, State, conforms, step}
use Rattle.swap_run.specs.Fair.{repeat, most_acts}
use Rattle.swap_world.specs.Value.{world_cast, answering_cast}
use Rattle.swap_world.specs.Gone.{HasGone}
use Rattle.swap_world.proofs.Ways.{along_acts, if_err}
use Rattle.swap_world.proofs.Gone.{alone_conforming, begun, cast_gone, cut_to, deal_gone, goes_on_gone, quiet_rests, quiet_run, still_at, stopped_in, went_to}
use Rattle.swap_world.proofs.Loops.{repeat_on, repeat_rests, repeat_stops}
use Rattle.swap_world.proofs.fair.act_to_rest.Goals as goal

abbrev act_of : ℕ → Cast → State → State
act_of p x s = step x s (Act p)

pub acts-init : goal.acts-init
acts-init g c = begun (g.A.Strategies.gives c.args._strategies.now) c.args.world.now

pub act_if_due-requires-clause-party : goal.act_if_due-requires-clause-party
act_if_due-requires-clause-party g c =
    subst (λ d. c.args.p < d.graph.n) (sym (deal_gone (g.A.Strategies.gives c.args._strategies.now) (λ x s. repeat c.acts.counter (act_of c.args.p x) s)
    c.args.world.now c.acts.world c.acts.invariant)) c.requires.party

pub act_if_due-requires-clause-conforms : goal.act_if_due-requires-clause-conforms
act_if_due-requires-clause-conforms g c =
    subst (λ x. conforms x c.args.p ≡ true) (sym (cast_gone (g.A.Strategies.gives c.args._strategies.now) (λ x s. repeat c.acts.counter (act_of c.args.p x) s)
    c.args.world.now c.acts.world c.acts.invariant)) c.requires.conforms

pub act_if_due-requires-clause-goes_on : goal.act_if_due-requires-clause-goes_on
act_if_due-requires-clause-goes_on g c =
    goes_on_gone (g.A.Strategies.gives c.args._strategies.now) (λ x s. repeat c.acts.counter (act_of c.args.p x) s) c.args.world.now c.acts.world c.acts.invariant
    c.requires.goes_on

pub acts-preserved : goal.acts-preserved
acts-preserved g c =
    let gives = g.A.Strategies.gives c.args._strategies.now in
    let w = c.args.world.now in
    let mid = c.acts.world in
    let conforming : conforms (world_cast mid) c.args.p ≡ true =
    subst (λ x. conforms x c.args.p ≡ true) (sym (cast_gone gives (λ x s. repeat c.acts.counter (act_of c.args.p x) s) w mid c.acts.invariant))
    c.requires.conforms in
    repeat_on gives (act_of c.args.p) w mid c.act_if_due.new.self (most_acts w.deal) c.acts.counter c.acts.invariant
    (went_to gives (act_of c.args.p) mid c.act_if_due.new.self
    (quiet_run (world_cast mid) mid.state c.args.p (alone_conforming (world_cast mid) c.args.p conforming)) c.in_ok-act_if_due.ensures.ok)

pub returns-in_err-act_if_due-clause-err : goal.returns-in_err-act_if_due-clause-err
returns-in_err-act_if_due-clause-err g c =
    let gives = g.A.Strategies.gives c.args._strategies.now in
    let w = c.args.world.now in
    let mid = c.acts.world in
    let new = c.act_if_due.new.self in
    let l : c.acts.counter < most_acts w.deal = rw (← c.deal.ensures.value, ← c.most_acts-end.ensures) c.acts-test.true in
    let e = c.in_err-act_if_due.ensures in
    let conforming : conforms (world_cast mid) c.args.p ≡ true =
    subst (λ x. conforms x c.args.p ≡ true) (sym (cast_gone gives (λ x s. repeat c.acts.counter (act_of c.args.p x) s) w mid c.acts.invariant))
    c.requires.conforms in
    let cut =
    cut_to gives (act_of c.args.p) mid new
    (quiet_run (world_cast mid) mid.state c.args.p (alone_conforming (world_cast mid) c.args.p conforming)) e.cut in
    if_err _ (repeat_stops gives (act_of c.args.p) w mid new (most_acts w.deal) c.acts.counter c.acts.invariant (λ x s. Act c.args.p ∷ [])
    (λ x s. replicate (most_acts w.deal) (Act c.args.p))
    (λ a b k. along_acts (answering_cast w a) (most_acts w.deal) c.acts.counter c.args.p w.state b l k)
    (stopped_in gives mid new (Act c.args.p) e.cut.stopped cut))

pub returns-then-not-branch-clause-ok : goal.returns-then-not-branch-clause-ok
returns-then-not-branch-clause-ok g c =
    let gives = g.A.Strategies.gives c.args._strategies.now in
    let w = c.args.world.now in
    let mid = c.acts.world in
    let l : c.acts.counter < most_acts w.deal = rw (← c.deal.ensures.value, ← c.most_acts-end.ensures) c.acts-test.true in
    let e = c.in_ok-act_if_due.ensures in
    let idle = e.idle c.if-not-branch.true in
    let conforming : conforms (world_cast mid) c.args.p ≡ true =
    subst (λ x. conforms x c.args.p ≡ true) (sym (cast_gone gives (λ x s. repeat c.acts.counter (act_of c.args.p x) s) w mid c.acts.invariant))
    c.requires.conforms in
    let same = still_at mid c.act_if_due.new.self (step (world_cast mid) mid.state (Act c.args.p)) e.ok idle in
    subst (λ x. HasGone gives (λ y s. repeat (most_acts w.deal) (act_of c.args.p y) s) w x) (sym same)
    (repeat_rests gives (act_of c.args.p) w mid mid (most_acts w.deal) c.acts.counter c.acts.invariant (omega (arith, l))
    (quiet_rests (act_of c.args.p) (world_cast mid) mid.state
    (quiet_run (world_cast mid) mid.state c.args.p (alone_conforming (world_cast mid) c.args.p conforming)) idle))

pub returns-clause-ok : goal.returns-clause-ok
returns-clause-ok g c =
    let w = c.args.world.now in
    let e : c.acts.counter ≡ c.most_acts-end.result = omega (arith, c.acts-test.false, c.acts.auto) in
    let h : c.most_acts-end.result ≡ most_acts w.deal = rw c.deal.ensures.value at c.most_acts-end.ensures in
    subst (λ n. HasGone (g.A.Strategies.gives c.args._strategies.now) (λ x s. repeat n (act_of c.args.p x) s) w c.acts.world) (e ∙ h) c.acts.invariant
