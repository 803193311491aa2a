-- Whether a seed's keys, or a wallet's, are those that a deal states.
use Rattle.std.specs.Prelude.{ℕ, Bool, true, false, not, ◌&&◌, ◌||◌, List, length, nat_eq, nat_lt, Option, Some, None, is_some, if◌then◌else◌}
use Rattle.std.specs.Str.{bytes_eq}
use Rattle.std.specs.List.{find}
use Rattle.swap_digraph.specs.declared.deal.Deal.{Deal}
use Rattle.swap_digraph.specs.declared.deal.Mode.{Mode}
use Rattle.swap_digraph.specs.declared.deal.Mode.TheVariants.{Timelocks, Hashkeys}
use Rattle.swap_digraph.specs.Deal.{locks, leads, lock_hashlock}
use Rattle.hash_signature.specs.Signature.{hashed_value, derive_secret, derive_public_key}
use Rattle.hashkey_path.specs.Hashkey.{party_public_key}
use Rattle.party_wallet.specs.Value.{WalletState, signed_hashkey}
use Rattle.party_wallet.specs.Keys.{party_public}

-- with hashkeys, the seed's public key of v for lock i is the deal's
abbrev pub has_key : Mode → Deal → ℕ → List ℕ → ℕ → Bool
has_key Timelocks d v seed i = true
has_key Hashkeys d v seed i = bytes_eq (derive_public_key seed v i) (party_public_key d v i)

-- where v leads lock i, the seed's secret opens it
abbrev pub opens_own : Deal → ℕ → List ℕ → ℕ → Bool
opens_own d v seed i = not (leads d v i) || bytes_eq (hashed_value (derive_secret seed)) (lock_hashlock d i)

-- the seed has what the deal states of v for lock i
abbrev pub fits_lock : Deal → ℕ → List ℕ → ℕ → Bool
fits_lock d v seed i = has_key d.mode d v seed i && opens_own d v seed i

-- the least lock for which the seed lacks what the deal states of v
abbrev pub wrong_lock : Deal → ℕ → List ℕ → Option ℕ
wrong_lock d v seed = find (λ i. not (fits_lock d v seed i)) (locks d)

-- the wallet has an unspent key of party v for lock i
abbrev pub has_ready : WalletState → ℕ → ℕ → Bool
has_ready w v i = nat_eq w.party v && nat_lt i (length w.signed) && not (is_some (signed_hashkey w.signed i))

-- the public key of party v for lock i, where the wallet can sign with its key
abbrev pub find_public_key : WalletState → ℕ → ℕ → Option (List ℕ)
find_public_key w v i = if has_ready w v i then party_public w.mode w.seed w.party i else None

-- with hashkeys, that public key is the one that the deal states of v for lock i
abbrev pub is_stated : Mode → Deal → ℕ → ℕ → Option (List ℕ) → Bool
is_stated Timelocks d v i public = true
is_stated Hashkeys d v i None = false
is_stated Hashkeys d v i (Some public) = bytes_eq public (party_public_key d v i)

-- the wallet has what the deal states of v for lock i
abbrev pub fits_deal : Deal → ℕ → WalletState → ℕ → Bool
fits_deal d v w i = is_stated d.mode d v i (find_public_key w v i) && opens_own d v w.seed i

-- the least lock for which the wallet lacks what the deal states of v
abbrev pub find_wrong_lock : Deal → ℕ → WalletState → Option ℕ
find_wrong_lock d v w = find (λ i. not (fits_deal d v w i)) (locks d)
