use Rattle.read_back.proofs.Showable as showable
use Rattle.read_back.proofs.headers.read_is_showable.Goals as goal

pub returns : goal.returns
returns c = showable.read_is_showable
