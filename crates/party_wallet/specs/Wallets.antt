-- The wallets of a deal's parties before anything is signed.
use Rattle.std.specs.Prelude.{ℕ, Bool, false, List, map, slice_index_or, option_map, Option, None, if◌then◌else◌}
use Rattle.std.specs.List.{range_with_len}
use Rattle.swap_digraph.specs.declared.deal.Deal.{Deal}
use Rattle.party_wallet.specs.Value.{WalletState}
use Rattle.party_wallet.specs.Keys.{new_wallet}

-- the wallet of party p, where it conforms and has a seed
abbrev pub job_wallet : Deal → List Bool → List (Option (List ℕ)) → ℕ → Option WalletState
job_wallet d conforming seeds p = if slice_index_or conforming p false then option_map (λ seed. new_wallet seed p d) (slice_index_or seeds p None) else None

-- the wallet of each party that conforms and has a seed
abbrev pub new_wallets : Deal → List Bool → List (Option (List ℕ)) → List (Option WalletState)
new_wallets d conforming seeds = map (job_wallet d conforming seeds) (range_with_len 0 d.graph.n)
