use Rattle.std.proofs.Common.{rules}
use Rattle.typed_books.proofs.Entries.{ticks_typed}
use Rattle.typed_books.proofs.book.visit_ticks.Goals as goal

pub returns : goal.returns
returns c = ticks_typed c.args.run.above c.args.run.by c.args.run.count (search rules)
