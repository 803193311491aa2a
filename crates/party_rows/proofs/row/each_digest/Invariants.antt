use Rattle.std.proofs.Common.{◌≡◌, length}
use Rattle.transcript_book.specs.Reading.{lower_hex_digest, parse_each_word}
use Rattle.transcript_book.proofs.Members.{with_front}
use Rattle.party_rows.proofs.row.each_digest.Given as goal

abbrev pub invariant-loop-word : goal.invariant-loop-word
invariant-loop-word l = with_front l.list.items (parse_each_word lower_hex_digest l.parts) ≡ parse_each_word lower_hex_digest l.fn.parts

abbrev pub decreases-loop-word : goal.decreases-loop-word
decreases-loop-word l = length l.parts
