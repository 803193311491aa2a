use Rattle.told_ledgers.proofs.Ledgers.{book_is_legal}
use Rattle.told_ledgers.proofs.reader.LedgersReader.finish.Goals as goal

pub returns-in-Over-clause-legal : goal.returns-in-Over-clause-legal
returns-in-Over-clause-legal c =
    rw (← c.self.view_is, c.new.ensures)
    (book_is_legal c.self.inside.deal c.self.inside.ledgers.items c.self.invariant.one_each c.self.invariant.legal)
