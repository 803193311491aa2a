use Rattle.std.proofs.Common.{◌≡◌}
use Rattle.swap_world.specs.Acting.{histories}
use Rattle.swap_world.proofs.world.ledger_histories.Given as goal

abbrev pub invariant-loop-ledger : goal.invariant-loop-ledger
invariant-loop-ledger l = l.histories.items ≡ histories l.yielded
