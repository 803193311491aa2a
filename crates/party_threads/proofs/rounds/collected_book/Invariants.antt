use Rattle.std.proofs.Common.{◌≡◌}
use Rattle.party_threads.specs.Standing.{race_book}
use Rattle.party_threads.proofs.rounds.collected_book.Given as goal

abbrev pub invariant-ledgers : goal.invariant-ledgers
invariant-ledgers l = l.histories.items ≡ race_book l.yielded
