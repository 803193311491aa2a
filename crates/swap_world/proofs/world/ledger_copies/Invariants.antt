use Rattle.std.proofs.Common.{◌≡◌, take}
use Rattle.swap_world.specs.Acting.{histories}
use Rattle.swap_world.proofs.world.ledger_copies.Given as goal

abbrev pub invariant-copies : goal.invariant-copies
invariant-copies l = l.histories.items ≡ histories (take l.ledger-index l.ledgers)
