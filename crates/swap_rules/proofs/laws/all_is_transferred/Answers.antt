use Rattle.swap_rules.proofs.Transfer as transfer
use Rattle.swap_rules.proofs.Found as found
use Rattle.swap_rules.proofs.laws.all_is_transferred.Goals as goal

pub returns-clause-conforms : goal.returns-clause-conforms
returns-clause-conforms c = transfer.all_is_transferred

pub returns-clause-found : goal.returns-clause-found
returns-clause-found c = found.without_findings_all_is_transferred
