use Rattle.read_back.proofs.HeaderOneLine as one
use Rattle.read_back.proofs.headers.header_is_one_line.Goals as goal

pub returns : goal.returns
returns c = one.header_is_one_line
