use Rattle.std.proofs.Common.{◌<◌, ℕ, get_or}
use Rattle.typed_books.proofs.call.visit_path.Given as goal

abbrev pub invariant-parties : goal.invariant-parties
invariant-parties l = (k : ℕ) → k < l.party-index → get_or l.path k 0 < 256
