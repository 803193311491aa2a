use Rattle.std.proofs.Common.{◌≡◌}
use Rattle.swap_digraph.specs.Arcs.{next_arc_fault}
use Rattle.swap_digraph.proofs.Faults.{fault_from}
use Rattle.std.proofs.Common.{[]}
use Rattle.swap_digraph.proofs.digraph.first_fault.Given as goal

abbrev pub invariant-loop-number : goal.invariant-loop-number
invariant-loop-number l = fault_from l.n l.version l.arcs l.number ≡ next_arc_fault l.n l.version [] l.arcs
