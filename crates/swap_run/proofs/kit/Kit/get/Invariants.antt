use Rattle.std.proofs.Common.{◌≡◌, drop}
use Rattle.swap_job.specs.Names.{named_item}
use Rattle.swap_run.proofs.kit.Kit.get.Given as goal

abbrev pub invariant-loop-at : goal.invariant-loop-at
invariant-loop-at g l = named_item l.name (drop l.at l.self.names) (drop l.at l.self.strategies.items) ≡ named_item l.name l.self.names l.self.strategies.items
