use Rattle.transcript_book.proofs.Entries as entries
use Rattle.transcript_book.proofs.laws.one_spelling.Goals as goal

pub returns : goal.returns
returns c = entries.one_spelling
