use Rattle.leader_check.proofs.Walks as walks
use Rattle.leader_check.proofs.laws.no_cycle_is_feedback.Goals as goal

pub returns : goal.returns
returns c = walks.no_cycle_is_feedback
