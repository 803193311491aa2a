use Rattle.std.proofs.Common.{◌≡◌, length}
use Rattle.transcript_book.specs.Between.{separated_parts}
use Rattle.told_ledgers.specs.Words.{ends_unfunded}
use Rattle.told_ledgers.proofs.Words.{unfunded_after}
use Rattle.told_ledgers.proofs.kind.ends_unfunded.Given as goal

abbrev pub invariant-words : goal.invariant-words
invariant-words l = ends_unfunded (separated_parts 32 l.line) ≡ unfunded_after l.is_sign l.is_lacking l.is_unfunded l.words

abbrev pub decreases-words : goal.decreases-words
decreases-words l = length l.words
