-- The law of the bytes that a deal's id is taken of.
use Rattle.std.specs.Prelude.{◌≡◌, ℕ, List, length, All}
use Rattle.swap_digraph.specs.declared.deal.Deal.{Deal}
use Rattle.swap_digraph.specs.Deal.{IsWellSized}
use Rattle.hashkey_path.specs.Digest.{deal_bytes}

-- each is 32 bytes
abbrev pub AreDigests : List (List ℕ) → Type 0
AreDigests = All (λ digest. length digest ≡ 32)

-- The deal's lists and numbers have their sizes, and its hashlocks and keys are digests.
pub record IsWrittenDeal (d : Deal) : Type 0 where
  pub sized : IsWellSized d
  pub hashlocks : AreDigests d.hashlocks
  pub keys : All AreDigests d.keys

-- two deals of the same bytes are the same but for their ids
abbrev pub DealBytesTellApart : Type 0
DealBytesTellApart = (d e : Deal) → IsWrittenDeal d → IsWrittenDeal e → deal_bytes d ≡ deal_bytes e → (record d { id = e.id }) ≡ e
