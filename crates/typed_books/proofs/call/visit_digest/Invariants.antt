use Rattle.std.proofs.Common.{◌<◌, ℕ, get_or}
use Rattle.typed_books.proofs.call.visit_digest.Given as goal

abbrev pub invariant-bytes : goal.invariant-bytes
invariant-bytes l = (k : ℕ) → k < l.byte-index → get_or l.digest k 0 < 256
