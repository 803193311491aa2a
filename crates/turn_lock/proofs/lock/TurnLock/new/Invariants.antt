use Rattle.std.proofs.Common.{◌≡◌, ◌≤◌, length, vec_capacity, []}
use Rattle.turn_lock.specs.Turns.{fresh, AreNumberedSeats}
use Rattle.turn_lock.proofs.lock.TurnLock.new.Given as goal

-- as many seats as numbers were dealt, and the maker has none
abbrev pub invariant-loop-k : goal.invariant-loop-k
invariant-loop-k g l =
    (l.maker.table_id ≡ l.table.shared.table_id)
    × (l.maker.me ≡ (fresh (g.T.Journal.history l.fn.value), []))
    × (length l.all.items ≡ l.k)
    × (l.seats ≤ vec_capacity l.all)
    × AreNumberedSeats l.table.shared.table_id (g.T.Journal.history l.fn.value) 0 l.all.items
