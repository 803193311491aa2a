use Rattle.std.proofs.Common.{◌≡◌}
use Rattle.party_wallet.specs.Keys.{with_recorded}
use Rattle.party_wallet.proofs.Restored.{so_far}
use Rattle.party_wallet.proofs.wallet.Wallet.restored.Given as goal

abbrev pub invariant-locks : goal.invariant-locks
invariant-locks l = l.wallet ≡ with_recorded l.fn.self (so_far l.recorded l.lock)
