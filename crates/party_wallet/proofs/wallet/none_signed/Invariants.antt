use Rattle.std.proofs.Common.{◌≡◌, None, replicate}
use Rattle.party_wallet.proofs.wallet.none_signed.Given as goal

abbrev pub invariant-locks : goal.invariant-locks
invariant-locks l = l.keys.items ≡ replicate l._lock None
