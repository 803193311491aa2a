use Rattle.std.proofs.Common.{sym, subst}
use Rattle.swap_world.specs.Actors.{AreHeld}
use Rattle.swap_commands.proofs.Replays.{goes_on_still, is_of_still}
use Rattle.swap_commands.proofs.replay.WorldWalkerTuple2RefJobRefReason.take.Goals as goal

pub step-requires-clause-held : goal.step-requires-clause-held
step-requires-clause-held g c =
    subst (λ rs. AreHeld (g.A.Strategies.holds c.args.context.1.now) rs) (sym c.requires.can.is_world.roles) c.requires.can.held

pub returns-clause-can : goal.returns-clause-can
returns-clause-can g c =
    let gives = g.A.Strategies.gives c.args.context.1.now in
    let job = c.args.context.0.now in
    let can = c.requires.can in
    record {
      whole = can.whole;
      seeds = can.seeds;
      is_world = is_of_still gives job c.args.self.now c.step.new.self can.is_world _ c.in_ok-step.ensures.ok;
      goes_on = goes_on_still gives job c.args.self.now c.step.new.self can.is_world _ c.in_ok-step.ensures.ok can.goes_on;
      held = can.held;
    }

pub returns-clause-taken : goal.returns-clause-taken
returns-clause-taken g c = record { event = c.in_ok-event.event; is_told = c.in_ok-event.ensures.exact; stepped = c.in_ok-step.ensures.ok }
