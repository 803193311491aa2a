use Rattle.swap_commands.specs.Words.{OfJob, Check}
use Rattle.swap_commands.proofs.Saying.{says_check, says_stopped}
use Rattle.swap_commands.proofs.check.check.Goals as goal

pub returns-in-Ok : goal.returns-in-Ok
returns-in-Ok g c =
    says_check _ _ _ _ _ _ _ _ _ _ c.examine.new.input c.in-Ok.job c.write_checked_offer.result c.in-Ok.ensures.reads c.in-Ok.ensures.accepted c.write_checked_offer.ensures

pub returns-in-Err : goal.returns-in-Err
returns-in-Err g c =
    rw c.unread.ensures
    (says_stopped (g.A.Strategies.holds c.args.strategies.now) (g.A.Strategies.gives c.args.strategies.now) (OfJob Check) (g.S.Source.left c.args.source.now)
    (g.S.Source.left c.examine.new.source) (g.S.Source.left c.stop.new.source)
    (g.S.Source.faults c.args.source.now) (g.S.Source.faults c.examine.new.source) (g.S.Source.faults c.stop.new.source) c.examine.new.input
    c.stop.new.self (g.K.Sink.taken c.args.sink.now) (g.K.Sink.faults c.args.sink.now) c.in-Err.fault c.stop.result c.in-Err.ensures.reads c.stop.ensures)
