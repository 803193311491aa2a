use Rattle.std.proofs.Common.{◌≡◌, drop}
use Rattle.swap_base.specs.Fault.{steps}
use Rattle.transcript_book.specs.Taking.{append_digit}
use Rattle.transcript_book.proofs.number.continue_reading.Given as goal

abbrev pub invariant-loop-byte : goal.invariant-loop-byte
invariant-loop-byte l = steps append_digit l.value (drop l.byte-index l.digits) ≡ steps append_digit 0 l.digits
