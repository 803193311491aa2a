use Rattle.std.proofs.Common.{[]}
use Rattle.swap_run.specs.Run.{step}
use Rattle.swap_run.proofs.Swept.{none_swept}
use Rattle.swap_world.specs.On.{is_slot_swept}
use Rattle.swap_world.specs.Value.{answering_cast}
use Rattle.swap_world.proofs.Gone.{cut_as, gone_as, stepping}
use Rattle.swap_world.proofs.world.World.step.Goals as goal

pub returns-in-Ok-clause-ok : goal.returns-in-Ok-clause-ok
returns-in-Ok-clause-ok g c =
    let w = c.args.self.now in
    let e = c.args.event.now in
    gone_as (g.A.Strategies.gives c.args.strategies.now) (stepping (is_slot_swept []) e) (λ x s. step x s e) w c.apply_step.new.self
    (λ a. (none_swept (answering_cast w a) w.state).0 e) c.in-Ok.ensures.ok

pub returns-in-Err-clause-cut : goal.returns-in-Err-clause-cut
returns-in-Err-clause-cut g c =
    let w = c.args.self.now in
    let e = c.args.event.now in
    cut_as (g.A.Strategies.gives c.args.strategies.now) (stepping (is_slot_swept []) e) (λ x s. step x s e) w c.apply_step.new.self
    (λ a. (none_swept (answering_cast w a) w.state).0 e) c.in-Err.ensures.cut
