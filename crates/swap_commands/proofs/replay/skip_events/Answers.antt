use Rattle.std.proofs.Common.{◌≡◌, Ok, Err}
use Rattle.std.proofs.lemmas.Result.{err_from_is_err_and}
use Rattle.swap_offer.specs.Job.{limited_event}
use Rattle.command_input.specs.Input.{ahead, desk}
use Rattle.command_input.proofs.Streams.{stops_as}
use Rattle.swap_commands.specs.Replay.{folded_events, skipped_event}
use Rattle.swap_commands.specs.Walk.{lines_told}
use Rattle.swap_commands.proofs.Replays.{replayed_refused, skipped_told}
use Rattle.swap_commands.proofs.Walks.{ends_as}
use Rattle.swap_commands.proofs.replay.skip_events.Goals as goal

pub returns-in_err-walk-clause-stops : goal.returns-in_err-walk-clause-stops
returns-in_err-walk-clause-stops g c =
    let job = c.args.job.now in
    let now = desk (g.S.Source.left c.walk.new.source) (g.S.Source.faults c.walk.new.source) c.walk.new.input in
    let p = err_from_is_err_and c.from_residual.result c.from_residual.ensures.1 in
    rw (p.1, p.2)
    (stops_as (λ bytes r. lines_told (limited_event job) 0 (ahead c.args.input.now bytes) ≡ Err r)
    (λ bytes r. folded_events skipped_event job 0 tt (ahead c.args.input.now bytes) ≡ Err r)
    (λ bytes r e. replayed_refused skipped_event job tt (ahead c.args.input.now bytes) r e) _ now _ c.in_err-walk.ensures.reads)

pub returns-clause-exact : goal.returns-clause-exact
returns-clause-exact g c =
    let job = c.args.job.now in
    let k = c.in_ok-walk.ensures.reads in
    ends_as (λ bytes. lines_told (limited_event job) 0 (ahead c.args.input.now bytes) ≡ Ok k.events)
    (λ bytes. folded_events skipped_event job 0 tt (ahead c.args.input.now bytes) ≡ Ok tt)
    (λ bytes e. skipped_told job (ahead c.args.input.now bytes) k.events e) _ _ k.are_told
