-- All that a party signs with its seed.
use Rattle.std.specs.Prelude.{ℕ, List}
use Rattle.swap_digraph.specs.declared.deal.Deal.{Deal}
use Rattle.swap_rules.specs.Due.{Wallet}
use Rattle.party_wallet.specs.Keys.{own_key, onto_key}

-- all that party v signs with the seed
abbrev pub seed_wallet : List ℕ → ℕ → Deal → Wallet
seed_wallet seed v d = record { first = own_key d.mode d v seed; onto = onto_key d.mode d v seed }
