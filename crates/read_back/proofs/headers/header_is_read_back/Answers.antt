use Rattle.read_back.proofs.HeaderWhole as whole
use Rattle.read_back.proofs.headers.header_is_read_back.Goals as goal

pub returns : goal.returns
returns c = whole.header_is_read_back
