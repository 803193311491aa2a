-- The chains that one-time keys are made of: SHA-256 (FIPS 180-4) again and again.
-- A chain begins with a start that the seed, the party, the lock and the chain's number give.
-- A digest and a seed are lists of 32 bytes. What is hashed begins with a byte that tells its kind.
use Rattle.std.specs.Prelude.{ℕ, zero, suc, List, [], ◌∷◌, ◌++◌}
use Rattle.sha2.specs.Sha256.{sha256}

-- the seed of the party, its number, and the lock that the key is for
pub record KeyParts : Type 0 where
  pub seed : List ℕ
  pub party : ℕ
  pub lock : ℕ

-- the start of chain j of a party's key for a lock
abbrev pub chain_start : List ℕ → ℕ → ℕ → ℕ → List ℕ
chain_start seed party lock j = sha256 (1 ∷ seed ++ party ∷ lock ∷ j ∷ [])

-- one step of a chain, from the value y
abbrev pub chain_step : List ℕ → List ℕ
chain_step y = sha256 (2 ∷ y)

-- the value that n steps lead to from y
unfoldable pub chain_value : ℕ → List ℕ → List ℕ
chain_value zero y = y
chain_value (suc n) y = chain_step (chain_value n y)
