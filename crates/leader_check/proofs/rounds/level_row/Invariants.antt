use Rattle.std.proofs.Common.{◌≡◌}
use Rattle.leader_check.specs.Levels.{bounded_levels}
use Rattle.leader_check.proofs.rounds.level_row.Given as goal

abbrev pub invariant-loop-round : goal.invariant-loop-round
invariant-loop-round l = l.row.items ≡ bounded_levels l.graph l.leaders l._round
