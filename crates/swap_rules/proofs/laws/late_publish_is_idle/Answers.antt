use Rattle.swap_rules.proofs.Walking as walking
use Rattle.swap_rules.proofs.laws.late_publish_is_idle.Goals as goal

pub returns : goal.returns
returns c = walking.late_publish_is_idle
