use Rattle.leader_check.proofs.Bounds as bounds
use Rattle.leader_check.proofs.laws.paths_to_leaders_are_bounded.Goals as goal

pub returns : goal.returns
returns c = bounds.paths_to_leaders_are_bounded
