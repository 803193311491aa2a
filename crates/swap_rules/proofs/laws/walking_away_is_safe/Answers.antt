use Rattle.swap_rules.proofs.Found as found
use Rattle.swap_rules.proofs.Refunds as refunds
use Rattle.swap_rules.proofs.laws.walking_away_is_safe.Goals as goal

pub returns-clause-safe : goal.returns-clause-safe
returns-clause-safe c = refunds.watchful_is_safe

pub returns-clause-on_time : goal.returns-clause-on_time
returns-clause-on_time c = refunds.on_time_is_watchful

pub returns-clause-named : goal.returns-clause-named
returns-clause-named c = found.late_publish_is_safe

pub returns-clause-stranded : goal.returns-clause-stranded
returns-clause-stranded c = found.late_unlock_has_refunds

pub returns-clause-asker : goal.returns-clause-asker
returns-clause-asker c = found.late_asker_has_refunds
