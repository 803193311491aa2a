use Rattle.std.proofs.Common.{◌≡◌, length}
use Rattle.transcript_book.specs.Reading.{parse_each_word, bounded_number}
use Rattle.transcript_book.proofs.Members.{with_front}
use Rattle.many_lines.specs.Below.{AreChainsBelow}
use Rattle.many_lines.proofs.chain_list.read_chains.Given as goal

abbrev pub invariant-loop-word : goal.invariant-loop-word
invariant-loop-word l = record {
  reads : with_front l.list.items (parse_each_word (bounded_number l.count) l.fields) ≡ parse_each_word (bounded_number l.count) l.fn.fields;
  below : AreChainsBelow l.count l.list.items;
}

abbrev pub decreases-loop-word : goal.decreases-loop-word
decreases-loop-word l = length l.fields
