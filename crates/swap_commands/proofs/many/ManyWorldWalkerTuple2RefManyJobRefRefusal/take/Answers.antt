use Rattle.swap_many.proofs.Values.{held_same}
use Rattle.swap_commands.proofs.ManyWorlds.{can_of, still_of}
use Rattle.swap_commands.proofs.many.ManyWorldWalkerTuple2RefManyJobRefRefusal.take.Goals as goal

pub step-requires-clause-event : goal.step-requires-clause-event
step-requires-clause-event g c =
    can_of c.args.context.0.now c.args.self.now c.in_ok-event.event c.requires.can.are_worlds c.in_ok-event.ensures.can

pub returns-clause-can : goal.returns-clause-can
returns-clause-can g c =
    let gives = g.A.Strategies.gives c.args.context.1.now in
    let can = c.requires.can in
    let same = c.in_ok-step.ensures.ok.same in
    record {
      chains = can.chains;
      swaps = can.swaps;
      are_worlds = still_of gives c.args.context.0.now c.args.self.now c.step.new.self same can.are_worlds;
      held = held_same gives c.args.self.now c.step.new.self _ same can.held;
    }

pub returns-clause-taken : goal.returns-clause-taken
returns-clause-taken g c = record {
  event = c.in_ok-event.event;
  is_told = c.in_ok-event.ensures.exact;
  stepped = record { gone = c.in_ok-step.ensures.ok; can = c.in_ok-event.ensures.can };
}
