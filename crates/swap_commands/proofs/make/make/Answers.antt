use Rattle.swap_commands.specs.Words.{OfJob, Make}
use Rattle.swap_commands.proofs.Saying.{says_make, says_stopped}
use Rattle.swap_commands.proofs.make.make.Goals as goal

pub returns-in-Ok : goal.returns-in-Ok
returns-in-Ok g c =
    says_make _ _ _ _ _ _ _ _ _ _ c.copy.new.input _ _ c.write_plain_text.result c.in-Ok.ensures.reads c.in-Ok.ensures.made
    (rw c.deref.ensures.value at c.write_plain_text.ensures)

pub returns : goal.returns
returns g c =
    rw c.unread.ensures
    (says_stopped (g.A.Strategies.holds c.args.strategies.now) (g.A.Strategies.gives c.args.strategies.now) (OfJob Make) (g.S.Source.left c.args.source.now)
    (g.S.Source.left c.copy.new.source) (g.S.Source.left c.stop.new.source)
    (g.S.Source.faults c.args.source.now) (g.S.Source.faults c.copy.new.source) (g.S.Source.faults c.stop.new.source) c.copy.new.input
    c.stop.new.self (g.K.Sink.taken c.args.sink.now) (g.K.Sink.faults c.args.sink.now) c.in-Err.fault c.stop.result c.in-Err.ensures.reads c.stop.ensures)
