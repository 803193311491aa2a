use Rattle.swap_offer.proofs.Accepted.{accepted_for}
use Rattle.swap_offer.proofs.header.admit.Goals as goal

pub returns-clause-accepted : goal.returns-clause-accepted
returns-clause-accepted c =
    let graph = c.in_ok-graph in
    let of = graph.ensures.of_header in
    accepted_for c.args.header.now graph.graph tt c.requires of.ends of.parties of.arcs graph.ensures.exact c.in_ok-need.ensures.exact
