use Rattle.transcript_book.proofs.Complete as complete
use Rattle.transcript_book.proofs.laws.whole_is_read.Goals as goal

pub returns : goal.returns
returns c = complete.whole_is_read
