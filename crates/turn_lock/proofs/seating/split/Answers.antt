use Rattle.std.proofs.Common.{rules, ap}
use Rattle.turn_lock.proofs.Keeps.{splits}
use Rattle.turn_lock.proofs.seating.split.Goals as goal

pub split_seat-requires : goal.split_seat-requires
split_seat-requires g c = (search rules, search rules, rw (ap (λ m. m.0) c.requires.new) (splits _ _ _ _ _))
