use Rattle.std.proofs.Common.{◌≡◌, [], length}
use Rattle.party_notes.specs.Notes.{with_lines}
use Rattle.party_notes.proofs.notes.read_notes.Given as goal

abbrev pub invariant-lines : goal.invariant-lines
invariant-lines l = with_lines l.first [] l.fn.lines ≡ with_lines l.number l.list.items l.lines

abbrev pub decreases-lines : goal.decreases-lines
decreases-lines l = length l.lines
