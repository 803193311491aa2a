use Rattle.std.proofs.Common.{◌≡◌, length, map, string_bytes}
use Rattle.transcript_book.specs.Reading.{parse_each_word}
use Rattle.transcript_book.proofs.Members.{with_front}
use Rattle.swap_answer.specs.Words.{utf8_word}
use Rattle.swap_answer.proofs.words.each_word.Given as goal

abbrev pub invariant-loop-part : goal.invariant-loop-part
invariant-loop-part l = with_front (map string_bytes l.words.items) (parse_each_word utf8_word l.parts) ≡ parse_each_word utf8_word l.fn.parts

abbrev pub decreases-loop-part : goal.decreases-loop-part
decreases-loop-part l = length l.parts
