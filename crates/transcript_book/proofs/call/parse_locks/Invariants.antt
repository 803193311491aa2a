use Rattle.std.proofs.Common.{◌≡◌, ◌-◌, length}
use Rattle.transcript_book.specs.Reading.{parse_locks}
use Rattle.transcript_book.proofs.Members.{with_locks}
use Rattle.transcript_book.proofs.call.parse_locks.Given as goal

abbrev pub invariant-locks : goal.invariant-locks
invariant-locks l = record {
  so_far : with_locks l.locks (parse_locks (l.count - l.counter) l.fields) ≡ parse_locks l.count l.fn.fields;
  many : length l.locks ≡ l.counter;
}
