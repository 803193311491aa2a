use Rattle.leader_check.proofs.Heights as heights
use Rattle.leader_check.proofs.laws.greatest_level_is_height.Goals as goal

pub returns : goal.returns
returns c = heights.greatest_level_is_height
