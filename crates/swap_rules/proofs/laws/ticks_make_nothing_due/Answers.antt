use Rattle.swap_rules.proofs.Rest as rest
use Rattle.swap_rules.proofs.laws.ticks_make_nothing_due.Goals as goal

pub returns : goal.returns
returns c = rest.ticks_make_nothing_due
