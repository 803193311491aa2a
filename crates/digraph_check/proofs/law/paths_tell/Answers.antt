use Rattle.std.proofs.Common.{sym, arith}
use Rattle.digraph_check.proofs.Paths.{path_reaches, reaches_path}
use Rattle.digraph_check.proofs.ClosedSets.{closed_of_set, connected_of_none, none_of_connected, excluded}
use Rattle.digraph_check.proofs.law.paths_tell.Goals as goal

pub returns-clause-paths : goal.returns-clause-paths
returns-clause-paths c u v lu lv =
    (λ h. let r = reaches_path c.args.graph.now u v lu h in (r.vertices, r.between), λ h. path_reaches c.args.graph.now u v h.0 h.1)

pub returns-clause-connected : goal.returns-clause-connected
returns-clause-connected c = (connected_of_none c.args.graph.now, none_of_connected c.args.graph.now)

pub returns-clause-excluded : goal.returns-clause-excluded
returns-clause-excluded c = excluded c.args.graph.now

pub returns-clause-closed : goal.returns-clause-closed
returns-clause-closed c has some set e = closed_of_set c.args.graph.now set has (omega arith) (sym e)
