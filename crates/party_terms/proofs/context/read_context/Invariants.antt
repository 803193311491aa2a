use Rattle.std.proofs.Common.{◌≡◌, [], length}
use Rattle.party_terms.specs.Context.{with_context_lines}
use Rattle.party_terms.proofs.context.read_context.Given as goal

abbrev pub invariant-lines : goal.invariant-lines
invariant-lines l = with_context_lines l.arcs l.first [] l.fn.lines ≡ with_context_lines l.arcs l.number l.list.items l.lines

abbrev pub decreases-lines : goal.decreases-lines
decreases-lines l = length l.lines
