use Rattle.std.proofs.Common.{refl}
use Rattle.swap_world.specs.Value.{world_answers}
use Rattle.swap_commands.specs.Replay.{IsPlayed}
use Rattle.swap_commands.specs.Words.{OfJob, Run}
use Rattle.swap_commands.proofs.Saying.{says_run, says_short, says_stopped}
use Rattle.swap_commands.proofs.run.run.Goals as goal

pub returns-in-Err : goal.returns-in-Err
returns-in-Err g c =
    rw c.unread.ensures
    (says_stopped (g.A.Strategies.holds c.args.strategies.now) (g.A.Strategies.gives c.args.strategies.now) (OfJob (Run c.args.transcript))
    (g.S.Source.left c.args.source.now) (g.S.Source.left c.play.new.source) (g.S.Source.left c.stop.new.source)
    (g.S.Source.faults c.args.source.now) (g.S.Source.faults c.play.new.source) (g.S.Source.faults c.stop.new.source) c.play.new.input
    c.stop.new.self (g.K.Sink.taken c.args.sink.now) (g.K.Sink.faults c.args.sink.now) c.in-Err.fault c.stop.result c.in-Err.ensures.reads c.stop.ensures)

pub returns-in_default : goal.returns-in_default
returns-in_default g c =
    let a = world_answers c.in-Ok.played.1 in
    says_short _ _ _ (λ bytes. IsPlayed (g.A.Strategies.holds c.args.strategies.now) a bytes c.in-Ok.played.0 c.in-Ok.played.1.state) _ _ _ _ _ _
    c.play.new.input (c.in-Ok.ensures.reads a (λ i lt. refl))

pub returns : goal.returns
returns g c =
    says_run _ _ c.args.transcript _ _ _ _ _ _ _ _ c.play.new.input c.in-Ok.played.0 c.in-Ok.played.1 c.in-Ok-conclude.book.histories c.write_report_or_transcript.result
    c.in-Ok.ensures.reads c.in-Ok-conclude.ensures.book c.in-Ok.ensures.accepted c.in-Ok-conclude.ensures.kept c.in-Ok-conclude.ensures.ended
    c.in-Ok-conclude.ensures.dealt c.write_report_or_transcript.ensures
