use Rattle.std.proofs.Common.{All, take}
use Rattle.typed_books.specs.Typed.{IsDigest}
use Rattle.typed_books.proofs.call.visit_locks.Given as goal

abbrev pub invariant-locks : goal.invariant-locks
invariant-locks l = All IsDigest (take l.lock l.locks)
