use Rattle.std.proofs.Common.{[]}
use Rattle.std.proofs.lemmas.Result.{err_from_is_err_and}
use Rattle.command_input.specs.Input.{desk}
use Rattle.command_input.proofs.Ahead.{stands_none}
use Rattle.command_input.proofs.Streams.{no_memory_after}
use Rattle.swap_commands.proofs.ManyTold.{is_replayed, stops_after}
use Rattle.swap_commands.proofs.ManyWorlds.{opened_are_held, opened_are_of}
use Rattle.swap_commands.proofs.many.run_events.Goals as goal

pub walk-requires-clause-can : goal.walk-requires-clause-can
walk-requires-clause-can g c =
    let many = c.args.many.now in
    let opened = c.in-Ok.ensures.opened in
    record {
      chains = c.requires.chains;
      swaps = c.requires.swaps;
      are_worlds = opened_are_of many c.in-Ok.world opened;
      held = opened_are_held (g.A.Strategies.holds c.args.strategies.now) many c.in-Ok.world opened c.requires.held;
    }

pub returns-in_ok-walk-in-Ok-clause-reads : goal.returns-in_ok-walk-in-Ok-clause-reads
returns-in_ok-walk-in-Ok-clause-reads g c = record {
  new = c.in-Ok.world;
  begun = c.in-Ok.ensures.opened;
  replayed = is_replayed (g.A.Strategies.gives c.args.strategies.now) c.args.many.now _ _ _ _ c.in_ok-walk-in-Ok.ensures.reads;
}

pub returns-in_ok-walk-in-Ok-clause-held : goal.returns-in_ok-walk-in-Ok-clause-held
returns-in_ok-walk-in-Ok-clause-held g c = c.in_ok-walk-in-Ok.ensures.can.held

pub returns-in_err-walk-in-Ok-clause-reads : goal.returns-in_err-walk-in-Ok-clause-reads
returns-in_err-walk-in-Ok-clause-reads g c =
    let old = desk (g.S.Source.left c.args.source.now) (g.S.Source.faults c.args.source.now) c.args.input.now in
    let now = desk (g.S.Source.left c.walk.new.source) (g.S.Source.faults c.walk.new.source) c.walk.new.input in
    let p = err_from_is_err_and c.from_residual.result c.from_residual.ensures.1 in
    rw (p.1, p.2) (stops_after c.args.many.now old now c.in_err-walk-in-Ok.field-0.0 c.in_err-walk-in-Ok.ensures.reads)

pub returns-in-Err-Refused-clause-reads : goal.returns-in-Err-Refused-clause-reads
returns-in-Err-Refused-clause-reads g c = c.refuse.ensures.stops

pub returns-in-Err-NoMemory-clause-reads : goal.returns-in-Err-NoMemory-clause-reads
returns-in-Err-NoMemory-clause-reads g c =
    let old = desk (g.S.Source.left c.args.source.now) (g.S.Source.faults c.args.source.now) c.args.input.now in
    no_memory_after old old [] (stands_none old c.requires.fits)
