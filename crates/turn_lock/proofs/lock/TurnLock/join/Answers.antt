use Rattle.std.proofs.Common.{rules}
use Rattle.turn_lock.proofs.Keeps.{joins}
use Rattle.turn_lock.proofs.lock.TurnLock.join.Goals as goal

pub join_seat-requires : goal.join_seat-requires
join_seat-requires g c = (search rules, search rules, search rules, search rules, joins _ _ _ _ _ _ _ _ c.requires.idle.0 c.requires.other.0)
