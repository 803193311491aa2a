use Rattle.swap_clear.specs.Proposals.{proposed_graph}
use Rattle.swap_clear.specs.Cleared.{IsShownClearing}
use Rattle.swap_clear.proofs.Within.{shows_of}
use Rattle.swap_clear.proofs.cleared.make_clearing.Goals as goal

pub returns-in-Ok-clause-shows : goal.returns-in-Ok-clause-shows
returns-in-Ok-clause-shows c =
    let arcs = c.as_slice-2.result.now in
    let shown : IsShownClearing (proposed_graph c.len.result arcs) arcs c.in-Ok.clearing = record {
      left_out = c.in-Ok.ensures.left_out;
      groups = c.in-Ok.ensures.groups;
      strong = c.in-Ok.ensures.strong;
      leaders = c.in-Ok.ensures.leaders;
      cycles = c.in-Ok.ensures.cycles;
      no_fewer = c.in-Ok.ensures.no_fewer;
      bound = c.in-Ok.ensures.bound;
      ready = c.in-Ok.ensures.ready;
    } in
    shows_of c.args.wishes.now c.in-Ok.clearing c.len.result arcs c.len.ensures c.as_slice-2.ensures shown
