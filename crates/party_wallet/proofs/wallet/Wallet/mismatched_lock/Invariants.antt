use Rattle.std.proofs.Common.{◌≡◌, ◌-◌, not}
use Rattle.std.specs.List.{find, range_with_len}
use Rattle.party_wallet.specs.Fits.{fits_deal, find_wrong_lock}
use Rattle.party_wallet.proofs.wallet.Wallet.mismatched_lock.Given as goal

abbrev pub invariant-locks : goal.invariant-locks
invariant-locks l = find (λ i. not (fits_deal l.deal l.party l.self i)) (range_with_len l.lock (l.count - l.lock)) ≡ find_wrong_lock l.deal l.party l.self
