use Rattle.program_laws.proofs.Back as back
use Rattle.program_laws.proofs.transcripts.round_trip.Goals as goal

pub returns : goal.returns
returns c = back.round_trip
