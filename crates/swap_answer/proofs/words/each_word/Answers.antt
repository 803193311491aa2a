use Rattle.transcript_book.proofs.Members.{starts}
use Rattle.swap_answer.proofs.words.each_word.Goals as goal

pub loop-part-init : goal.loop-part-init
loop-part-init c = rw c.new-words.ensures.items (starts _)
