use Rattle.std.proofs.Common.{rules, refl}
use Rattle.turn_lock.proofs.Keeps.{asks}
use Rattle.turn_lock.proofs.seating.ask.Goals as goal

pub compare_exchange-requires : goal.compare_exchange-requires
compare_exchange-requires g c = (search rules, search rules, asks _ _ _ _ _ _ _ _ _ (search rules) refl)
