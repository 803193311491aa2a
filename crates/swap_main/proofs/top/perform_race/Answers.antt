use Rattle.std.proofs.Common.{◌≡◌, ap, ◌∙◌}
use Rattle.std.proofs.KnownBytes.{Keeps-refl}
use Rattle.command_input.specs.Faults.{unread}
use Rattle.command_input.specs.declared.fault.InputFault.TheVariants.{ReadFault}
use Rattle.swap_commands.specs.Words.{OfJob, Race}
use Rattle.swap_commands.proofs.Saying.{says_unread}
use Rattle.swap_main.proofs.top.perform_race.Goals as goal

pub race-requires-clause-can : goal.race-requires-clause-can
race-requires-clause-can g c = λ κs lives. c.in-Ok.ensures.can

pub returns-in-Ok-clause-says : goal.returns-in-Ok-clause-says
returns-in-Ok-clause-says g c =
    c.race.ensures (g.S.Source.left c.args.source.now) (g.S.Source.left c.enter.new.source) (g.S.Source.faults c.args.source.now)
    (g.S.Source.faults c.enter.new.source) c.in-Ok.ensures.entered

pub returns-in-Err-clause-says : goal.returns-in-Err-clause-says
returns-in-Err-clause-says g c =
    rw c.unread.ensures
    (says_unread (g.A.Strategies.holds c.args.hooks.now.strategies.now) (g.A.Strategies.gives c.args.hooks.now.strategies.now) (OfJob (Race c.args.order.ticks c.args.order.transcript))
    (g.S.Source.left c.args.source.now) (g.S.Source.left c.enter.new.source) (g.S.Source.faults c.args.source.now)
    (g.S.Source.faults c.enter.new.source) c.in-Err.ensures.stopped.now (g.K.Sink.taken c.args.sink.now) (g.K.Sink.taken c.args.sink.now)
    (g.K.Sink.faults c.args.sink.now) (g.K.Sink.faults c.args.sink.now) (Keeps-refl (g.K.Sink.taken c.args.sink.now)) c.in-Err.fault
    (c.in-Err.ensures.stopped.stopped c.args.order.ticks c.args.order.transcript))

pub returns-in-Ok-clause-calm : goal.returns-in-Ok-clause-calm
returns-in-Ok-clause-calm g c = λ unless. c.in-Ok.ensures.calm (λ e. absurd (cc e))

pub returns-in-Err-clause-calm : goal.returns-in-Err-clause-calm
returns-in-Err-clause-calm g c = λ unless.
    c.in-Err.ensures.calm (λ e. let same : c.in-Err.fault ≡ ReadFault = cc e in unless (c.unread.ensures ∙ ap unread same))
