use Rattle.std.proofs.Common.{◌≡◌, max, drop}
use Rattle.swap_base.specs.Lists.{greatest}
use Rattle.leader_check.proofs.rounds.row_maximum.Given as goal

abbrev pub invariant-loop-level : goal.invariant-loop-level
invariant-loop-level l = max l.most (greatest (λ x. x) (drop l.level-index l.row)) ≡ greatest (λ x. x) l.row
