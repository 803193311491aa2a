use Rattle.swap_clear.proofs.ClearingAnswers as told
use Rattle.swap_clear.proofs.ClearingAnswers.{if_cleared, if_refused}
use Rattle.swap_clear.proofs.clearing.clear.Goals as goal

pub returns-clause-left_out : goal.returns-clause-left_out
returns-clause-left_out c = if_cleared c.args.n c.args.arcs.now _ c.cleared.result c.cleared.ensures (told.left_out c.args.n c.args.arcs.now)

pub returns-clause-groups : goal.returns-clause-groups
returns-clause-groups c = if_cleared c.args.n c.args.arcs.now _ c.cleared.result c.cleared.ensures (told.groups c.args.n c.args.arcs.now)

pub returns-clause-strong : goal.returns-clause-strong
returns-clause-strong c = if_cleared c.args.n c.args.arcs.now _ c.cleared.result c.cleared.ensures (told.strong c.args.n c.args.arcs.now)

pub returns-clause-leaders : goal.returns-clause-leaders
returns-clause-leaders c = if_cleared c.args.n c.args.arcs.now _ c.cleared.result c.cleared.ensures (told.leaders c.args.n c.args.arcs.now)

pub returns-clause-cycles : goal.returns-clause-cycles
returns-clause-cycles c = if_cleared c.args.n c.args.arcs.now _ c.cleared.result c.cleared.ensures (told.cycles c.args.n c.args.arcs.now)

pub returns-clause-no_fewer : goal.returns-clause-no_fewer
returns-clause-no_fewer c = if_cleared c.args.n c.args.arcs.now _ c.cleared.result c.cleared.ensures (told.fewer c.args.n c.args.arcs.now)

pub returns-clause-bound : goal.returns-clause-bound
returns-clause-bound c = if_cleared c.args.n c.args.arcs.now _ c.cleared.result c.cleared.ensures (told.bound c.args.n c.args.arcs.now)

pub returns-clause-ready : goal.returns-clause-ready
returns-clause-ready c =
    if_cleared c.args.n c.args.arcs.now _ c.cleared.result c.cleared.ensures (λ x e.
    told.ready c.args.n c.args.arcs.now x e c.requires.parties.1 c.requires.arcs.1 c.requires.amounts)

pub returns-clause-refused : goal.returns-clause-refused
returns-clause-refused c = if_refused c.args.n c.args.arcs.now c.cleared.result c.cleared.ensures
