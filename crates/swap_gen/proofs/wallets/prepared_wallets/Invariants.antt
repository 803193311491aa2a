use Rattle.std.proofs.Common.{◌≡◌, map, Some}
use Rattle.std.specs.List.{range_with_len}
use Rattle.party_wallet.specs.Keys.{new_wallet}
use Rattle.swap_gen.specs.Made.{seed_keys, seed_or_zeros}
use Rattle.swap_gen.proofs.wallets.prepared_wallets.Given as goal

abbrev pub invariant-parties : goal.invariant-parties
invariant-parties l = record {
  wallets : l.made.wallets.items ≡ map (λ p. Some (new_wallet (seed_or_zeros l.job.seeds p) p l.job.deal)) (range_with_len 0 l.p);
  keys : l.made.keys.items ≡ map (seed_keys l.job.seeds l.job.deal) (range_with_len 0 l.p);
}
