use Rattle.std.proofs.Common.{◌∙◌, List, ap}
use Rattle.swap_digraph.specs.declared.arc_ends.ArcEnds.{ArcEnds}
use Rattle.swap_digraph.specs.Arcs.{first_fault}
use Rattle.swap_digraph.proofs.Faults.{has_ends}
use Rattle.swap_digraph.proofs.Distinct.{has_distinct_ends}
use Rattle.swap_digraph.proofs.digraph.Digraph.new.Goals as goal

pub returns-clause-ends : goal.returns-clause-ends
returns-clause-ends c =
    rw c.new.ensures (has_ends c.args.n c.args.version c.args.arcs.items (c.in-None.ensures
    ∙ ap (λ (xs : List ArcEnds). first_fault c.args.n c.args.version xs) c.deref.ensures.value))

pub returns-clause-distinct : goal.returns-clause-distinct
returns-clause-distinct c one =
    rw c.new.ensures (has_distinct_ends c.args.n c.args.version c.args.arcs.items (c.in-None.ensures
    ∙ ap (λ (xs : List ArcEnds). first_fault c.args.n c.args.version xs) c.deref.ensures.value) one)
