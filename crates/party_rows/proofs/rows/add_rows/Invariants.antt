use Rattle.std.proofs.Common.{◌≡◌, length}
use Rattle.party_rows.specs.Rows.{with_rows, AreDealRows}
use Rattle.party_rows.proofs.rows.add_rows.Given as goal

abbrev pub invariant-lines : goal.invariant-lines
invariant-lines l =
    (with_rows l.job l.first l.fn.rows.items l.fn.lines ≡ with_rows l.job l.line l.rows.items l.lines) × AreDealRows l.job.deal l.rows.items

abbrev pub decreases-lines : goal.decreases-lines
decreases-lines l = length l.lines
