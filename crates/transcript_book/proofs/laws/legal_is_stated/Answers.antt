use Rattle.transcript_book.proofs.Legal as legal
use Rattle.transcript_book.proofs.laws.legal_is_stated.Goals as goal

pub returns : goal.returns
returns c = legal.legal_is_stated
