use Rattle.std.specs.Vec.Iter.{into_iter_items}
use Rattle.party_threads.proofs.Staffing.{IsStaffed}
use Rattle.party_threads.proofs.first_turns.new_turns.Given as goal

abbrev pub invariant-players : goal.invariant-players
invariant-players l = IsStaffed l.job (into_iter_items l.player-iterator) l.turns.items
