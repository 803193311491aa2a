-- What the fields of a wallet mean, and what holds of them.
use Rattle.std.specs.Prelude.{◌≡◌, ◌≢◌, ◌<◌, ◌≤◌, ℕ, List, length, Option, None, slice_index_or}
use Rattle.swap_digraph.specs.declared.deal.Mode.{Mode}
use Rattle.hash_signature.specs.Key.{KeyParts}
use Rattle.hashkey_path.specs.declared.hashkey.Hashkey.{Hashkey}
use Rattle.party_wallet.specs.Value.{WalletState}
use Rattle.party_wallet.specs.Keys.{party_public, unspent}
use Rattle.party_wallet.specs.declared.wallet.Wallet.TheInside.{Inside}

-- what its fields show
abbrev pub inside_wallet : Inside → WalletState
inside_wallet w = record { mode = w.mode; seed = w.seed; party = w.party; signed = w.signed.keys }

-- A lock for which nothing is signed has its key ready. Where a hashkey is signed for a lock, the
-- lock's key is gone.
pub record AreSpentOnce (m : Mode) (seed : List ℕ) (v : ℕ) (keys : List (Option KeyParts)) (signed : List (Option Hashkey)) : Type 0 where
  pub one_each : length keys ≡ length signed
  pub few : length signed ≤ 8
  pub ready_at : (i : ℕ) → i < length signed → slice_index_or signed i None ≡ None → slice_index_or keys i None ≡ unspent m seed v i
  pub spent_at : (i : ℕ) → i < length signed → slice_index_or signed i None ≢ None → slice_index_or keys i None ≡ None

-- The public key of each lock.
pub record ArePublic (m : Mode) (seed : List ℕ) (v locks : ℕ) (publics : List (Option (List ℕ))) : Type 0 where
  pub one_each : length publics ≡ locks
  pub public_at : (i : ℕ) → i < locks → slice_index_or publics i None ≡ party_public m seed v i

pub record IsKeptWallet (w : Inside) : Type 0 where
  pub keys : AreSpentOnce w.mode w.seed w.party w.keys.items w.signed.keys
  pub publics : ArePublic w.mode w.seed w.party (length w.signed.keys) w.publics.items
