-- What callers see of a wallet.
use Rattle.std.specs.Prelude.{ℕ, List, Option, None, slice_index_or}
use Rattle.swap_digraph.specs.declared.deal.Mode.{Mode}
use Rattle.hashkey_path.specs.declared.hashkey.Hashkey.{Hashkey}

pub record WalletState : Type 0 where
  pub mode : Mode
  pub seed : List ℕ
  pub party : ℕ
  -- the hashkey that was signed for each lock
  pub signed : List (Option Hashkey)

-- the hashkey that was signed for lock i, if any
abbrev pub signed_hashkey : List (Option Hashkey) → ℕ → Option Hashkey
signed_hashkey keys i = slice_index_or keys i None
