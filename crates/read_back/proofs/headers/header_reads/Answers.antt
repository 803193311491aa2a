use Rattle.read_back.proofs.HeaderShown as shown
use Rattle.read_back.proofs.headers.header_reads.Goals as goal

pub returns : goal.returns
returns c = shown.header_reads
