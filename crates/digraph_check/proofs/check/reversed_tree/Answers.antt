use Rattle.std.proofs.Common.{◌∙◌, ap, map}
use Rattle.digraph_check.specs.Reach.{reversed_ends}
use Rattle.digraph_check.proofs.Turned.{has_ends_back}
use Rattle.digraph_check.proofs.check.reversed_tree.Goals as goal

pub tree_from_zero-requires-clause-ends : goal.tree_from_zero-requires-clause-ends
tree_from_zero-requires-clause-ends c =
    has_ends_back c.args.graph.now c.n.result c.deref.result.now c.n.ensures (c.deref.ensures.value ∙ c.in_ok-turned.ensures
    ∙ ap (map reversed_ends) c.arcs.ensures) c.requires.ends
