use Rattle.transcript_book.proofs.Members.{starts}
use Rattle.many_lines.proofs.Pairs.{none_above}
use Rattle.many_lines.proofs.chain_list.read_chains.Goals as goal

pub loop-word-init : goal.loop-word-init
loop-word-init c = record { reads = rw c.new-list.ensures.items (starts _); below = rw c.new-list.ensures.items (none_above c.args.count) }
