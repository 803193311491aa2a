use Rattle.leader_check.proofs.Rows.{TellWalks}
use Rattle.leader_check.proofs.cycle.walk_rows.Given as goal

abbrev pub invariant-loop-k : goal.invariant-loop-k
invariant-loop-k l = TellWalks l.graph l.leaders l.k l.rows.items
