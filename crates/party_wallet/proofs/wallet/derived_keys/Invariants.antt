use Rattle.std.proofs.Common.{◌≡◌, map}
use Rattle.std.specs.List.{range_with_len}
use Rattle.party_wallet.specs.Keys.{party_public, unspent}
use Rattle.party_wallet.proofs.wallet.derived_keys.Given as goal

abbrev pub invariant-locks : goal.invariant-locks
invariant-locks l = record {
  keys : l.keys.items ≡ map (unspent l.mode l.seed l.party) (range_with_len 0 l.lock);
  publics : l.publics.items ≡ map (party_public l.mode l.seed l.party) (range_with_len 0 l.lock);
}
