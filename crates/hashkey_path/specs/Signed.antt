-- The hashkeys that a party makes with its key, and where they are valid.
use Rattle.std.specs.Prelude.{◌≡◌, ℕ, ◌<◌, IsTrue, not, List, [], ◌∷◌, length, slice_index}
use Rattle.swap_digraph.specs.declared.deal.Deal.{Deal}
use Rattle.swap_digraph.specs.declared.deal.Mode.TheVariants.{Hashkeys}
use Rattle.swap_digraph.specs.Graph.{is_listed, has_arc}
use Rattle.swap_digraph.specs.Deal.{counterparty, leads, lock_hashlock}
use Rattle.hash_signature.specs.declared.sig.Sig.{Sig}
use Rattle.hash_signature.specs.Signature.{hashed_value, derive_public_key, made_signature}
use Rattle.hashkey_path.specs.declared.hashkey.Hashkey.{Hashkey}
use Rattle.hashkey_path.specs.Hashkey.{party_public_key, signing_message, IsValidHashkey}

-- the party's signature over the suffix that it begins, where rest are the vertices after it and
-- inner their signatures
abbrev pub suffix_signature : Deal → ℕ → List ℕ → ℕ → List ℕ → List ℕ → List Sig → Sig
suffix_signature d lock secret party seed rest inner = made_signature seed party lock (signing_message d.id lock (party ∷ rest) secret inner)

-- the hashkey whose path is the party alone, signed with the key of its seed
abbrev pub leaders_key : Deal → ℕ → List ℕ → ℕ → List ℕ → Hashkey
leaders_key d lock secret party seed =
    record {
      lock = lock;
      secret = secret;
      path = party ∷ [];
      sigs = suffix_signature d lock secret party seed [] [] ∷ [];
    }

-- the hashkey with the party before the inner one's path, signed with the key of the party's seed
abbrev pub extended_key : Deal → Hashkey → ℕ → List ℕ → Hashkey
extended_key d inner party seed =
    record {
      lock = inner.lock;
      secret = inner.secret;
      path = party ∷ inner.path;
      sigs = suffix_signature d inner.lock inner.secret party seed inner.path inner.sigs ∷ inner.sigs;
    }

-- The party leads the lock, and the secret and the key of the seed are those that the deal states.
pub record IsLeadersOwn (d : Deal) (lock : ℕ) (secret : List ℕ) (party : ℕ) (seed : List ℕ) : Type 0 where
  pub mode : d.mode ≡ Hashkeys
  pub leads : IsTrue (leads d party lock)
  pub opens : hashed_value secret ≡ lock_hashlock d lock
  pub key : party_public_key d party lock ≡ derive_public_key seed party lock

-- The party isn't on the path, has an arc to its first vertex, and the key of the seed is the one
-- that the deal states.
pub record CanExtend (d : Deal) (inner : Hashkey) (party : ℕ) (seed : List ℕ) : Type 0 where
  pub mode : d.mode ≡ Hashkeys
  pub apart : IsTrue (not (is_listed party inner.path))
  pub arc : IsTrue (has_arc d.graph party (slice_index inner.path 0))
  pub key : party_public_key d party inner.lock ≡ derive_public_key seed party inner.lock

-- The hashkey is valid under the hashlock on every arc that enters the party.
abbrev pub IsValidEntering : Deal → ℕ → List ℕ → Hashkey → Type 0
IsValidEntering d party hashlock key = (a : ℕ) → a < length d.graph.arcs → counterparty d a ≡ party → IsValidHashkey d a hashlock key
