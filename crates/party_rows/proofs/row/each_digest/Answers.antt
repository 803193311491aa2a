use Rattle.transcript_book.proofs.Members.{starts}
use Rattle.party_rows.proofs.row.each_digest.Goals as goal

pub loop-word-init : goal.loop-word-init
loop-word-init c = rw c.new-list.ensures.items (starts _)
