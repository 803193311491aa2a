use Rattle.std.proofs.Common.{◌≡◌, map}
use Rattle.std.specs.List.{range_with_len}
use Rattle.hash_signature.specs.Signature.{derive_public_key}
use Rattle.swap_gen.proofs.wallets.wallet_public_keys.Given as goal

abbrev pub invariant-locks : goal.invariant-locks
invariant-locks l = l.keys.items ≡ map (derive_public_key l.wallet.seed l.wallet.party) (range_with_len 0 l.lock)
