use Rattle.program_laws.proofs.Typed as typed
use Rattle.program_laws.proofs.transcripts.legal_is_typed.Goals as goal

pub returns : goal.returns
returns c = typed.legal_is_typed
