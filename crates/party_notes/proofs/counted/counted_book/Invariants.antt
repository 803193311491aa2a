use Rattle.std.proofs.Common.{◌≡◌, take}
use Rattle.swap_rules.specs.Counted.{all_counted}
use Rattle.told_ledgers.specs.Telling.{told_book}
use Rattle.party_notes.proofs.counted.counted_book.Given as goal

abbrev pub invariant-loop-ledger : goal.invariant-loop-ledger
invariant-loop-ledger l = l.histories.items ≡ all_counted l.me (told_book (take l.ledger-index l.ledgers))
