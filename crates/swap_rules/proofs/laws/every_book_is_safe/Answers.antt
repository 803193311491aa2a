use Rattle.swap_rules.proofs.Refunds as refunds
use Rattle.swap_rules.proofs.laws.every_book_is_safe.Goals as goal

pub returns : goal.returns
returns c = refunds.every_book_is_safe
