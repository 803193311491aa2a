use Rattle.transcript_book.proofs.Sound as sound
use Rattle.transcript_book.proofs.laws.read_is_whole.Goals as goal

pub returns : goal.returns
returns c = sound.read_is_whole
