use Rattle.std.proofs.Common.{◌≡◌, ◌++◌, take}
use Rattle.std.specs.List.{flat_map}
use Rattle.party_terms.specs.Text.{context_line_if}
use Rattle.party_terms.proofs.lines.put_arc_context.Given as goal

abbrev pub invariant-loop-about : goal.invariant-loop-about
invariant-loop-about l = l.out.items ≡ l.initial.out.items ++ flat_map (context_line_if l.arc) (take l.about-index l.context)
