use Rattle.std.proofs.Common.{◌≡◌, [], Ok, Err, ap}
use Rattle.std.proofs.lemmas.Result.{err_from_is_err_and}
use Rattle.swap_offer.specs.Job.{limited_event}
use Rattle.swap_run.specs.Run.{start, step}
use Rattle.swap_world.specs.Cast.{job_cast}
use Rattle.swap_world.specs.Value.{WorldState}
use Rattle.command_input.specs.Input.{ahead, desk}
use Rattle.command_input.proofs.Ahead.{stands_none}
use Rattle.command_input.proofs.Streams.{no_memory_after, stops_as}
use Rattle.swap_commands.specs.Output.{command_cast}
use Rattle.swap_commands.specs.Replay.{folded_events, skipped_event}
use Rattle.swap_commands.specs.Walk.{lines_told}
use Rattle.swap_commands.proofs.Replays.{has_asked, is_of_new, leads_to, replayed_refused}
use Rattle.swap_commands.proofs.Walks.{ends_as}
use Rattle.swap_commands.proofs.replay.replay.Goals as goal

pub walk-requires-clause-can : goal.walk-requires-clause-can
walk-requires-clause-can g c = record {
  whole = c.requires.whole;
  seeds = c.requires.seeds;
  is_world = is_of_new c.args.job.now c.in_ok-world.world c.in_ok-world.ensures.new;
  goes_on = ap (λ (w : WorldState). w.stopped) c.in_ok-world.ensures.new;
  held = c.requires.held;
}

pub returns-in_err-world-clause-reads : goal.returns-in_err-world-clause-reads
returns-in_err-world-clause-reads g c =
    let first = desk (g.S.Source.left c.args.source.now) (g.S.Source.faults c.args.source.now) c.args.input.now in
    let p = err_from_is_err_and c.from_residual.result c.from_residual.ensures.1 in
    rw (p.1, p.2) (no_memory_after first first [] (stands_none first c.requires.fits))

pub returns-in_err-walk-clause-reads : goal.returns-in_err-walk-clause-reads
returns-in_err-walk-clause-reads g c =
    let job = c.args.job.now in
    let now = desk (g.S.Source.left c.walk.new.source) (g.S.Source.faults c.walk.new.source) c.walk.new.input in
    let p = err_from_is_err_and c.from_residual-in_err-walk.result c.from_residual-in_err-walk.ensures.1 in
    rw (p.1, p.2)
    (stops_as (λ bytes r. lines_told (limited_event job) 0 (ahead c.args.input.now bytes) ≡ Err r)
    (λ bytes r. folded_events skipped_event job 0 tt (ahead c.args.input.now bytes) ≡ Err r)
    (λ bytes r e. replayed_refused skipped_event job tt (ahead c.args.input.now bytes) r e) _ now _ c.in_err-walk.ensures.reads)

pub returns-clause-reads : goal.returns-clause-reads
returns-clause-reads g c = λ a x.
    let job = c.args.job.now in
    let k = c.in_ok-walk.ensures.reads in
    ends_as (λ bytes. lines_told (limited_event job) 0 (ahead c.args.input.now bytes) ≡ Ok k.events)
    (λ bytes. folded_events (step (command_cast a job)) job 0 (start (job_cast job)) (ahead c.args.input.now bytes) ≡ Ok c.walk.new.walker.state)
    (λ bytes e. leads_to (g.A.Strategies.gives c.args.strategies.now) job c.in_ok-world.world c.walk.new.walker c.in_ok-world.ensures.new k.events k.stepped a x
    (ahead c.args.input.now bytes) e)
    _ _ k.are_told

pub returns-clause-asked : goal.returns-clause-asked
returns-clause-asked g c =
    let k = c.in_ok-walk.ensures.reads in
    has_asked (g.A.Strategies.gives c.args.strategies.now) c.args.job.now c.in_ok-world.world c.walk.new.walker c.in_ok-world.ensures.new k.events k.stepped

pub returns-clause-of : goal.returns-clause-of
returns-clause-of g c = c.in_ok-walk.ensures.can.is_world

pub returns-clause-goes_on : goal.returns-clause-goes_on
returns-clause-goes_on g c = c.in_ok-walk.ensures.can.goes_on
