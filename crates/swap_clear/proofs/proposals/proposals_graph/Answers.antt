use Rattle.std.proofs.Common.{◌∙◌, sym, ap}
use Rattle.swap_digraph.specs.declared.deal.Version.TheVariants.{Two}
use Rattle.swap_digraph.specs.Arcs.{build_digraph}
use Rattle.swap_clear.proofs.Faults.{refused_as, refused_so, accepted_so, not_parallel}
use Rattle.swap_clear.proofs.proposals.proposals_graph.Goals as goal

pub unreachable-requires : goal.unreachable-requires
unreachable-requires c =
    not_parallel c.args.n _ _ _
    (refused_as c.args.n c.args.arcs.now c.in_ok-ends.ends.items c.in-Err-Refused-Parallel.field-0 c.in-Err-Refused-Parallel.field-0-0 _
    c.in_ok-ends.ensures c.in-Err-Refused-Parallel.field-0-is c.in-Err-Refused-Parallel.field-0-0-is c.in-Err-Refused-Parallel.ensures.exact)

pub returns-in-Ok-clause-exact : goal.returns-in-Ok-clause-exact
returns-in-Ok-clause-exact c =
    accepted_so c.args.n c.args.arcs.now c.in-Ok.graph
    (sym (ap (build_digraph c.args.n Two) c.in_ok-ends.ensures) ∙ c.in-Ok.ensures.exact)

pub returns-in-Err-Refused-OutOfRange-clause-exact : goal.returns-in-Err-Refused-OutOfRange-clause-exact
returns-in-Err-Refused-OutOfRange-clause-exact c =
    refused_so c.args.n c.args.arcs.now _
    (refused_as c.args.n c.args.arcs.now c.in_ok-ends.ends.items c.in-Err-Refused-OutOfRange.field-0 c.in-Err-Refused-OutOfRange.field-0-0 _
    c.in_ok-ends.ensures c.in-Err-Refused-OutOfRange.field-0-is c.in-Err-Refused-OutOfRange.field-0-0-is c.in-Err-Refused-OutOfRange.ensures.exact)

pub returns-in-Err-Refused-SelfArc-clause-exact : goal.returns-in-Err-Refused-SelfArc-clause-exact
returns-in-Err-Refused-SelfArc-clause-exact c =
    refused_so c.args.n c.args.arcs.now _
    (refused_as c.args.n c.args.arcs.now c.in_ok-ends.ends.items c.in-Err-Refused-SelfArc.field-0 c.in-Err-Refused-SelfArc.field-0-0 _
    c.in_ok-ends.ensures c.in-Err-Refused-SelfArc.field-0-is c.in-Err-Refused-SelfArc.field-0-0-is c.in-Err-Refused-SelfArc.ensures.exact)
