use Rattle.party_threads.proofs.Resting as resting
use Rattle.party_threads.proofs.laws.rest_shows_in_calls.Goals as goal

pub returns : goal.returns
returns c = resting.rest_shows_in_calls
