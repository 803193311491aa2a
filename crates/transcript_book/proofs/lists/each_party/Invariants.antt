use Rattle.std.proofs.Common.{◌≡◌, length}
use Rattle.transcript_book.specs.Reading.{parse_each_word, bounded_number}
use Rattle.transcript_book.proofs.Members.{with_front}
use Rattle.transcript_book.proofs.lists.each_party.Given as goal

abbrev pub invariant-loop-word : goal.invariant-loop-word
invariant-loop-word l = with_front l.list.items (parse_each_word (bounded_number 256) l.parts) ≡ parse_each_word (bounded_number 256) l.fn.parts

abbrev pub decreases-loop-word : goal.decreases-loop-word
decreases-loop-word l = length l.parts
