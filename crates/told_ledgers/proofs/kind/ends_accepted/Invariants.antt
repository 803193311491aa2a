use Rattle.std.proofs.Common.{◌≡◌, length}
use Rattle.transcript_book.specs.Between.{separated_parts}
use Rattle.told_ledgers.specs.Words.{ends_accepted}
use Rattle.told_ledgers.proofs.Words.{accepted_after}
use Rattle.told_ledgers.proofs.kind.ends_accepted.Given as goal

abbrev pub invariant-words : goal.invariant-words
invariant-words l = ends_accepted (separated_parts 32 l.line) ≡ accepted_after l.is_sign l.is_accepted l.words

abbrev pub decreases-words : goal.decreases-words
decreases-words l = length l.words
