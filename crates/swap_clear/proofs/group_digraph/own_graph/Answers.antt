use Rattle.std.proofs.Common.{sym, subst, List, length}
use Rattle.swap_digraph.specs.declared.arc_ends.ArcEnds.{ArcEnds}
use Rattle.swap_digraph.specs.Graph.{HasEnds}
use Rattle.swap_clear.proofs.Faults.{never_refused}
use Rattle.swap_clear.proofs.group_digraph.own_graph.Goals as goal

pub unreachable-requires : goal.unreachable-requires
unreachable-requires c =
    never_refused (length c.args.set.now) c.in_ok-ends.ends.items c.in-Err-Refused.field-0 c.in-Err-Refused.field-0-0
    (subst (λ (xs : List ArcEnds). HasEnds (record { n = length c.args.set.now; arcs = xs })) (sym c.in_ok-ends.ensures) c.requires.ends)
    c.in-Err-Refused.field-0-is c.in-Err-Refused.ensures.exact
