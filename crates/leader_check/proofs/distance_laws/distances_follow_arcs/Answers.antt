use Rattle.leader_check.proofs.FarRounds as rounds
use Rattle.leader_check.proofs.distance_laws.distances_follow_arcs.Goals as goal

pub returns : goal.returns
returns c = rounds.distances_follow_arcs
