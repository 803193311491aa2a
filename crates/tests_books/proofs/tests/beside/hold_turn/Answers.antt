use Rattle.std.proofs.Common.{[], ap, ◌∙◌, append-nil}
use Rattle.turn_lock.specs.Turns.{known_key}
use Rattle.tests_books.proofs.tests.beside.hold_turn.Goals as goal

pub give-requires-clause-further : goal.give-requires-clause-further
give-requires-clause-further g c = ([], append-nil (known_key c.take-value.new.seat.me) ∙ ap known_key c.take-value.ensures.turn, tt)
