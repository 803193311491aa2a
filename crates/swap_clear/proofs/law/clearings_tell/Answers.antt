use Rattle.swap_clear.proofs.ClearingAnswers as told
use Rattle.swap_clear.proofs.Refusals.{clearing_refused}
use Rattle.swap_clear.proofs.law.clearings_tell.Goals as goal

pub returns-clause-left_out : goal.returns-clause-left_out
returns-clause-left_out c answer e = told.left_out c.args.n c.args.arcs.now answer e

pub returns-clause-groups : goal.returns-clause-groups
returns-clause-groups c answer e = told.groups c.args.n c.args.arcs.now answer e

pub returns-clause-strong : goal.returns-clause-strong
returns-clause-strong c answer e group i = told.strong c.args.n c.args.arcs.now answer e group i

pub returns-clause-leaders : goal.returns-clause-leaders
returns-clause-leaders c answer e group i = told.leaders c.args.n c.args.arcs.now answer e group i

pub returns-clause-cycles : goal.returns-clause-cycles
returns-clause-cycles c answer e group i = told.cycles c.args.n c.args.arcs.now answer e group i

pub returns-clause-no_fewer : goal.returns-clause-no_fewer
returns-clause-no_fewer c answer e group i = told.fewer c.args.n c.args.arcs.now answer e group i

pub returns-clause-bound : goal.returns-clause-bound
returns-clause-bound c answer e group i = told.bound c.args.n c.args.arcs.now answer e group i

pub returns-clause-ready : goal.returns-clause-ready
returns-clause-ready c small short amounts answer e group i = told.ready c.args.n c.args.arcs.now answer e small short amounts group i

pub returns-clause-refused : goal.returns-clause-refused
returns-clause-refused c reason e = clearing_refused c.args.n c.args.arcs.now reason e
