use Rattle.std.proofs.Common.{refl, sym, subst, ap, ◌∙◌, OnOk, OnErr, IfOk, ◌≡◌}
use Rattle.swap_job.specs.declared.event.Event.{Event}
use Rattle.swap_job.specs.declared.event.Event.TheVariants.{Tick, Call as Made, Crash}
use Rattle.swap_run.specs.Asked.{Answers}
use Rattle.swap_world.specs.Gone.{HasGone, IsCutMidway}
use Rattle.swap_world.specs.On.{is_slot_swept, event_told}
use Rattle.swap_world.specs.Value.{world_cast, answering_cast, Continues}
use Rattle.swap_world.proofs.Gone.{cut, cut_to, went, quiet_tick, quiet_call, quiet_crash, stepping, told_any}
use Rattle.swap_world.proofs.Ways.{if_err}
use Rattle.swap_world.proofs.world.World.happen.Goals as goal

pub returns-in-Call-clause-ok : goal.returns-in-Call-clause-ok
returns-in-Call-clause-ok g c =
    let w = c.args.self.now in
    let sw = is_slot_swept c.args.swept.now in
    let gives = g.A.Strategies.gives c.args.strategies.now in
    let is = ap (λ mv. Made c.in-Call.sender mv) c.deref.ensures ∙ sym c.in-Call.is in
    subst (λ (e : Event). OnOk c.make.result (HasGone gives (stepping sw e) w c.make.new.self)) is
    (went c.make.result gives (stepping sw (Made c.in-Call.sender c.deref.result.now)) w c.make.new.self
    (quiet_call sw (world_cast w) w.state c.in-Call.sender c.deref.result.now) c.make.ensures.ok)

pub returns-in-Call-clause-told : goal.returns-in-Call-clause-told
returns-in-Call-clause-told g c =
    let w = c.args.self.now in
    let sw = is_slot_swept c.args.swept.now in
    let is = ap (λ mv. Made c.in-Call.sender mv) c.deref.ensures ∙ sym c.in-Call.is in
    subst (λ (e : Event). IfOk c.make.result (λ r. (a : Answers) → Continues c.make.new.self a → r ≡ event_told sw (answering_cast w a) w.state e)) is
    (told_any c.make.result c.make.new.self (λ a. event_told sw (answering_cast w a) w.state (Made c.in-Call.sender c.deref.result.now))
    (event_told sw (world_cast w) w.state (Made c.in-Call.sender c.deref.result.now)) (λ a. refl) c.make.ensures.told)

pub returns-in-Call-clause-cut : goal.returns-in-Call-clause-cut
returns-in-Call-clause-cut g c =
    let w = c.args.self.now in
    let sw = is_slot_swept c.args.swept.now in
    let gives = g.A.Strategies.gives c.args.strategies.now in
    let is = ap (λ mv. Made c.in-Call.sender mv) c.deref.ensures ∙ sym c.in-Call.is in
    subst (λ (e : Event). OnErr c.make.result (IsCutMidway gives (stepping sw e) w c.make.new.self)) is
    (cut c.make.result gives (stepping sw (Made c.in-Call.sender c.deref.result.now)) w c.make.new.self
    (quiet_call sw (world_cast w) w.state c.in-Call.sender c.deref.result.now)
    c.make.ensures.cut)

pub returns-in_err-tick-in-Tick-clause-cut : goal.returns-in_err-tick-in-Tick-clause-cut
returns-in_err-tick-in-Tick-clause-cut g c =
    let w = c.args.self.now in
    let sw = is_slot_swept c.args.swept.now in
    let gives = g.A.Strategies.gives c.args.strategies.now in
    if_err _ (subst (λ (x : Event). IsCutMidway gives (stepping sw x) w c.tick.new.self) (sym c.in-Tick.is)
    (cut_to gives (stepping sw (Tick c.in-Tick.arc c.in-Tick.k)) w c.tick.new.self (quiet_tick sw (world_cast w) w.state c.in-Tick.arc c.in-Tick.k) c.in_err-tick-in-Tick.ensures.cut))

pub returns-in_err-crash-in-Crash-clause-cut : goal.returns-in_err-crash-in-Crash-clause-cut
returns-in_err-crash-in-Crash-clause-cut g c =
    let w = c.args.self.now in
    let sw = is_slot_swept c.args.swept.now in
    let gives = g.A.Strategies.gives c.args.strategies.now in
    let e = Crash c.in-Crash.p c.in-Crash.k c.in-Crash.image in
    if_err _ (subst (λ (x : Event). IsCutMidway gives (stepping sw x) w c.crash.new.self) (sym c.in-Crash.is)
    (cut_to gives (stepping sw e) w c.crash.new.self (quiet_crash sw (world_cast w) w.state c.in-Crash.p c.in-Crash.k c.in-Crash.image)
    c.in_err-crash-in-Crash.ensures.cut))
