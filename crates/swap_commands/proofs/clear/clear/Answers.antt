use Rattle.swap_commands.specs.Words.{Clear}
use Rattle.swap_commands.proofs.Saying.{says_stopped}
use Rattle.swap_commands.proofs.Clearings.{says_clear}
use Rattle.swap_commands.proofs.clear.clear.Goals as goal

pub returns-in-Ok : goal.returns-in-Ok
returns-in-Ok g c =
    says_clear _ _ _ _ _ _ _ _ _ _ c.clear_wishes.new.input _ c.write_plain_text.result c.in-Ok.ensures.cleared (rw c.deref.ensures.value at c.write_plain_text.ensures)

pub returns-in-Err : goal.returns-in-Err
returns-in-Err g c =
    rw c.unread.ensures
    (says_stopped (g.A.Strategies.holds c.args._strategies.now) (g.A.Strategies.gives c.args._strategies.now) Clear (g.S.Source.left c.args.source.now)
    (g.S.Source.left c.clear_wishes.new.source) (g.S.Source.left c.stop.new.source)
    (g.S.Source.faults c.args.source.now) (g.S.Source.faults c.clear_wishes.new.source) (g.S.Source.faults c.stop.new.source) c.clear_wishes.new.input
    c.stop.new.self (g.K.Sink.taken c.args.sink.now) (g.K.Sink.faults c.args.sink.now) c.in-Err.fault c.stop.result (c.in-Err.ensures.stops _) c.stop.ensures)
