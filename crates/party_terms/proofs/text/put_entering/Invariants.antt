use Rattle.std.proofs.Common.{◌≡◌, ◌++◌, take}
use Rattle.std.specs.List.{flat_map}
use Rattle.party_terms.specs.Text.{got_lines}
use Rattle.party_terms.proofs.text.put_entering.Given as goal

abbrev pub invariant-arcs : goal.invariant-arcs
invariant-arcs l = l.out.items ≡ l.initial.out.items ++ flat_map (got_lines l.names l.deal l.context) (take l.arc-index l.arc-items)
