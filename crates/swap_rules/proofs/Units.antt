-- At every prefix of a legal history each unit is in one place.
use Rattle.swap_base.proofs.Lists.{all_moments_front}
use Rattle.ledger_core.specs.History.{IsLegalMoment}
use Rattle.ledger_core.proofs.Units.{units}
use Rattle.swap_rules.specs.Laws.{UnitsAreKept}

pub units_are_kept : UnitsAreKept
units_are_kept d a h rest l = (units d a h (all_moments_front (IsLegalMoment d a) h rest l)).total
