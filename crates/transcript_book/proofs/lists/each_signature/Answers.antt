use Rattle.transcript_book.proofs.Members.{starts}
use Rattle.transcript_book.proofs.lists.each_signature.Goals as goal

pub loop-word-init : goal.loop-word-init
loop-word-init c = rw c.in_ok-list.ensures.items (starts _)
