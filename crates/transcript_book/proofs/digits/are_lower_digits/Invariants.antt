use Rattle.std.proofs.Common.{◌≡◌, take}
use Rattle.std.specs.List.{list_all}
use Rattle.transcript_book.specs.Reading.{is_lower_digit}
use Rattle.transcript_book.proofs.digits.are_lower_digits.Given as goal

abbrev pub invariant-digits : goal.invariant-digits
invariant-digits l = l.good ≡ list_all is_lower_digit (take l.byte-index l.word)
