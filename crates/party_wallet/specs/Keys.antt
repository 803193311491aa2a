-- What a seed gives a party to sign with.
use Rattle.std.specs.Prelude.{◌≡◌, ℕ, List, [], length, replicate, Option, Some, None, slice_set}
use Rattle.swap_digraph.specs.declared.deal.Deal.{Deal}
use Rattle.swap_digraph.specs.declared.deal.Mode.{Mode}
use Rattle.swap_digraph.specs.declared.deal.Mode.TheVariants.{Timelocks, Hashkeys}
use Rattle.hash_signature.specs.Key.{KeyParts}
use Rattle.hash_signature.specs.Signature.{derive_public_key, derive_secret}
use Rattle.hashkey_path.specs.declared.hashkey.Hashkey.{Hashkey}
use Rattle.hashkey_path.specs.Signed.{leaders_key, extended_key}
use Rattle.party_wallet.specs.Value.{WalletState}

-- a secret alone, as timelocks ask for it
abbrev pub bare_key : ℕ → List ℕ → Hashkey
bare_key lock secret = record { lock = lock; secret = secret; path = []; sigs = [] }

-- the party's own hashkey for lock i
abbrev pub own_key : Mode → Deal → ℕ → List ℕ → ℕ → Hashkey
own_key Timelocks d v seed i = bare_key i (derive_secret seed)
own_key Hashkeys d v seed i = leaders_key d i (derive_secret seed) v seed

-- the party's hashkey that goes on from the inner one
abbrev pub onto_key : Mode → Deal → ℕ → List ℕ → Hashkey → Hashkey
onto_key Timelocks d v seed inner = bare_key inner.lock inner.secret
onto_key Hashkeys d v seed inner = extended_key d inner v seed

-- the key for lock i, before it is spent
abbrev pub unspent : Mode → List ℕ → ℕ → ℕ → Option KeyParts
unspent Timelocks seed v i = None
unspent Hashkeys seed v i = Some (record { seed = seed; party = v; lock = i })

-- the public key for lock i
abbrev pub party_public : Mode → List ℕ → ℕ → ℕ → Option (List ℕ)
party_public Timelocks seed v i = None
party_public Hashkeys seed v i = Some (derive_public_key seed v i)

-- the wallet of v for a number of locks, with nothing signed
abbrev pub empty_wallet : Mode → List ℕ → ℕ → ℕ → WalletState
empty_wallet m seed v locks = record { mode = m; seed = seed; party = v; signed = replicate locks None }

-- the wallet of v for a deal, with nothing signed
abbrev pub new_wallet : List ℕ → ℕ → Deal → WalletState
new_wallet seed v d = record { mode = d.mode; seed = seed; party = v; signed = replicate (length d.leaders) None }

-- the wallet with the hashkeys that were signed before
abbrev pub with_recorded : WalletState → List (Option Hashkey) → WalletState
with_recorded w recorded = record { mode = w.mode; seed = w.seed; party = w.party; signed = recorded }

-- after hashkey k was signed for lock i
abbrev pub with_signed : WalletState → ℕ → Hashkey → WalletState
with_signed w i k = record { mode = w.mode; seed = w.seed; party = w.party; signed = slice_set w.signed i (Some k) }
