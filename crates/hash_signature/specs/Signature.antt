-- The swap's own one-time signatures, of chains of SHA-256 (FIPS 180-4), after Winternitz (R.
-- Merkle, "A Certified Digital Signature", 1989). The chains themselves stand in hash_chains. A
-- digest, a seed, a secret and a message are lists of 32 bytes. What is hashed begins with a byte
-- that tells its kind, except for the hashlock.
use Rattle.std.specs.Prelude.{ℕ, ◌+◌, ◌-◌, ◌*◌, ◌/◌, ◌%◌, Bool, List, [], ◌∷◌, ◌++◌, map, take, drop, slice_index, slice_index_or}
use Rattle.std.specs.Str.{bytes_eq}
use Rattle.std.specs.List.{range_with_len}
use Rattle.sha2.specs.Sha256.{sha256}
use Rattle.swap_base.specs.Text.{joined}
pub use Rattle.hash_chains.specs.Chains.{chain_start, chain_step, chain_value}

-- the hashlock of a secret
abbrev pub hashed_value : List ℕ → List ℕ
hashed_value secret = sha256 secret

-- the secret made from a seed
abbrev pub derive_secret : List ℕ → List ℕ
derive_secret seed = sha256 (5 ∷ seed)

-- the end of chain j: its start after 15 steps
abbrev pub chain_end : List ℕ → ℕ → ℕ → ℕ → List ℕ
chain_end seed party lock j = chain_value 15 (chain_start seed party lock j)

-- what f gives for each of the 67 chains, in order
unfoldable pub for_chains : {X : Type 0} → (ℕ → X) → List X
for_chains f = map f (range_with_len 0 67)

-- the digest of the ends of the chains, which is the public key
abbrev pub digest_of_ends : List (List ℕ) → List ℕ
digest_of_ends ends = sha256 (3 ∷ joined ends)

-- the public key of a party for a lock
unfoldable pub derive_public_key : List ℕ → ℕ → ℕ → List ℕ
derive_public_key seed party lock = digest_of_ends (for_chains (chain_end seed party lock))

-- the digits of 4 bits of each byte, the high half first
abbrev pub half_bytes : List ℕ → List ℕ
half_bytes [] = []
half_bytes (b ∷ bs) = b / 16 ∷ b % 16 ∷ half_bytes bs

-- the sum of 15 - d over the digits d
abbrev pub checksum : List ℕ → ℕ
checksum [] = 0
checksum (d ∷ ds) = (15 - d) + checksum ds

-- the three digits of a number in base 16, the most significant first
abbrev pub three_digits : ℕ → List ℕ
three_digits n = n / 256 ∷ n / 16 % 16 ∷ n % 16 ∷ []

-- the 67 digits of a message: those of its bytes, and those of their checksum
unfoldable pub digits : List ℕ → List ℕ
digits message = half_bytes message ++ three_digits (checksum (half_bytes message))

-- the digit of a message at chain j
abbrev pub digit : List ℕ → ℕ → ℕ
digit message j = slice_index (digits message) j

-- the value of a signature at chain j: the start of the chain after as many steps as the digit says
abbrev pub signed_value : List ℕ → ℕ → ℕ → List ℕ → ℕ → List ℕ
signed_value seed party lock message j = chain_value (digit message j) (chain_start seed party lock j)

-- the signature over a message
unfoldable pub made_signature : List ℕ → ℕ → ℕ → List ℕ → List (List ℕ)
made_signature seed party lock message = for_chains (signed_value seed party lock message)

-- the value of a signature at chain j, carried on to where the chain is to end
abbrev pub signature_chain_end : List ℕ → List (List ℕ) → ℕ → List ℕ
signature_chain_end message values j = chain_value (15 - digit message j) (slice_index_or values j [])

-- whether the values are a signature over the message for the public key
unfoldable pub is_valid_signature : List ℕ → List ℕ → List (List ℕ) → Bool
is_valid_signature public message values = bytes_eq (digest_of_ends (for_chains (signature_chain_end message values))) public

-- the value at chain j of a signature whose bytes follow each other
abbrev pub signature_value : List ℕ → ℕ → List ℕ
signature_value bytes j = take 32 (drop (32 * j) bytes)

-- the values of a signature whose bytes follow each other
unfoldable pub text_values : List ℕ → List (List ℕ)
text_values bytes = for_chains (signature_value bytes)
