-- Vectors of words, a message in each lane.
use Rattle.std.specs.Prelude.{◌≡◌, ℕ, ◌<◌, List, [], ◌∷◌, ◌++◌, map, take, slice_index, slice_index_or, Bool, true, false}
use Rattle.std.specs.Int.{w32, from_be_bytes, to_be_bytes}
use Rattle.sha2.specs.Sha256.{compress, digest_bytes, initial_hash_256, padded_message}
use Rattle.hash_chains.specs.Chains.{chain_value}

-- what lane j has of each vector
unfoldable pub lane : List (List ℕ) → ℕ → List ℕ
lane vs j = map (λ (v : List ℕ). slice_index v j) vs

-- the word of the last byte of a and the first three of b
abbrev pub joined_word : ℕ → ℕ → ℕ
joined_word a b = from_be_bytes w32
    (slice_index (to_be_bytes w32 a) 3 ∷ slice_index (to_be_bytes w32 b) 0 ∷ slice_index (to_be_bytes w32 b) 1 ∷ slice_index (to_be_bytes w32 b) 2 ∷ [])

-- the words of a block: the byte kind, the bytes of the eight words h, the first three of tail, the
-- word next, zeros, and the length
abbrev pub block_words : ℕ → List ℕ → ℕ → ℕ → ℕ → List ℕ
block_words kind h tail next bits =
    joined_word kind (slice_index h 0) ∷ joined_word (slice_index h 0) (slice_index h 1) ∷ joined_word (slice_index h 1) (slice_index h 2)
    ∷ joined_word (slice_index h 2) (slice_index h 3) ∷ joined_word (slice_index h 3) (slice_index h 4) ∷ joined_word (slice_index h 4) (slice_index h 5)
    ∷ joined_word (slice_index h 5) (slice_index h 6) ∷ joined_word (slice_index h 6) (slice_index h 7) ∷ joined_word (slice_index h 7) tail
    ∷ next ∷ 0 ∷ 0 ∷ 0 ∷ 0 ∷ 0 ∷ bits ∷ []

-- the padded message of a step from the value whose words are h
abbrev pub step_message : List ℕ → List ℕ
step_message h = padded_message (2 ∷ digest_bytes h 8)

-- the words of the value a step on from the value whose words are h
abbrev pub word_step : List ℕ → List ℕ
word_step h = compress initial_hash_256 (step_message h)

-- the padded message of a chain's start: the seed has the words h, and the first bytes of tail are
-- the party, the lock and the chain
abbrev pub start_message : List ℕ → ℕ → List ℕ
start_message h tail = padded_message (1 ∷ digest_bytes h 8 ++ take 3 (to_be_bytes w32 tail))

-- the words of that start
abbrev pub word_start : List ℕ → ℕ → List ℕ
word_start h tail = compress initial_hash_256 (start_message h tail)

-- the first eight words
abbrev pub first_eight : List ℕ → List ℕ
first_eight h =
    slice_index h 0 ∷ slice_index h 1 ∷ slice_index h 2 ∷ slice_index h 3 ∷ slice_index h 4 ∷ slice_index h 5 ∷ slice_index h 6 ∷ slice_index h 7 ∷ []

-- the value of chain j, carried on by its count
abbrev pub carried_value : List (List ℕ) → List ℕ → ℕ → List ℕ
carried_value values counts j = chain_value (slice_index counts j) (slice_index_or values j [])

-- each chain that is done has its end, by f
abbrev pub AreEndsWhereDone : (ℕ → List ℕ) → List (List ℕ) → List Bool → Type 0
AreEndsWhereDone f ends done = (j : ℕ) → j < 67 → slice_index_or done j false ≡ true → slice_index_or ends j [] ≡ f j
