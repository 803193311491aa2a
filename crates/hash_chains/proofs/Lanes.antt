-- Reading and writing lanes.
use Rattle.std.proofs.Common.{◌≡◌, ℕ, List, [], ◌∷◌, ◌++◌, take, zero, suc, ap, get_or, slice_index, slice_set, refl, ◌+◌, ◌*◌, ◌/◌, ◌%◌, ◌^◌}
use Rattle.std.proofs.Common.{◌<◌, arith, add-one, sym, ◌∙◌}
use Rattle.std.specs.Int.{w32, to_be_bytes}
use Rattle.sha2.specs.Sha256.{digest_bytes, first_words, hash_after, sha256}
use Rattle.hash_chains.specs.Chains.{chain_value, chain_start, chain_step}
use Rattle.hash_chains.specs.Lanes.{block_words, joined_word, lane, start_message, step_message, word_start, word_step}

pub lane-at : (vs : List (List ℕ)) (j i : ℕ) → slice_index (lane vs j) i ≡ slice_index (get_or vs i []) j
unfolding lane
lane-at [] j i = refl
lane-at (v ∷ vs) j zero = refl
lane-at (v ∷ vs) j (suc i) = lane-at vs j i

pub lane-set : (vs : List (List ℕ)) (j i : ℕ) (v : List ℕ) → lane (slice_set vs i v) j ≡ slice_set (lane vs j) i (slice_index v j)
unfolding lane
lane-set [] j i v = refl
lane-set (u ∷ vs) j zero v = refl
lane-set (u ∷ vs) j (suc i) v = ap (λ l. slice_index u j ∷ l) (lane-set vs j i v)

pub lane_of_eight : (a b c d e f g h : List ℕ) (j : ℕ) → lane (a ∷ b ∷ c ∷ d ∷ e ∷ f ∷ g ∷ h ∷ []) j
    ≡ slice_index a j ∷ slice_index b j ∷ slice_index c j ∷ slice_index d j ∷ slice_index e j ∷ slice_index f j ∷ slice_index g j ∷ slice_index h j ∷ []
unfolding lane
lane_of_eight a b c d e f g h j = refl

pub joined_is : (a b : ℕ) → a < 2 ^ 32 → b < 2 ^ 32 → (a * 2 ^ 24 % 2 ^ 32 + b / 2 ^ 8) % 2 ^ 32 ≡ joined_word a b
joined_is a b la lb = omega arith

-- the words of a step's block
pub step_words : (h : List ℕ) → first_words (step_message h) 16 ≡ block_words 2 h 0x80000000 0 264
unfolding first_words digest_bytes
step_words h = refl

-- the words of a start's block
pub start_words : (h : List ℕ) (tail : ℕ) → first_words (start_message h tail) 16 ≡ block_words 1 h tail 0x80000000 288
unfolding first_words digest_bytes
start_words h tail = refl

-- a step on the words of a value is a step on its bytes
pub step_bytes : (h : List ℕ) → chain_step (digest_bytes h 8) ≡ digest_bytes (word_step h) 8
unfolding sha256 hash_after digest_bytes
step_bytes h = refl

-- a start on the words of a seed is a start on its bytes
start_bytes : (h : List ℕ) (tail : ℕ) → sha256 (1 ∷ digest_bytes h 8 ++ take 3 (to_be_bytes w32 tail)) ≡ digest_bytes (word_start h tail) 8
unfolding sha256 hash_after digest_bytes
start_bytes h tail = refl

pub start_is : (words h : List ℕ) (tail party lock j : ℕ) → words ≡ word_start h tail → take 3 (to_be_bytes w32 tail) ≡ party ∷ lock ∷ j ∷ []
    → digest_bytes words 8 ≡ chain_start (digest_bytes h 8) party lock j
start_is words h tail party lock j is e =
    ap (λ (l : List ℕ). digest_bytes l 8) is ∙ sym (start_bytes h tail) ∙ ap (λ (l : List ℕ). sha256 (1 ∷ digest_bytes h 8 ++ l)) e

pub lane_of_sixteen : (x0 x1 x2 x3 x4 x5 x6 x7 x8 x9 x10 x11 x12 x13 x14 x15 : List ℕ) (j : ℕ)
    → lane (x0 ∷ x1 ∷ x2 ∷ x3 ∷ x4 ∷ x5 ∷ x6 ∷ x7 ∷ x8 ∷ x9 ∷ x10 ∷ x11 ∷ x12 ∷ x13 ∷ x14 ∷ x15 ∷ []) j
    ≡ slice_index x0 j ∷ slice_index x1 j ∷ slice_index x2 j ∷ slice_index x3 j ∷ slice_index x4 j ∷ slice_index x5 j ∷ slice_index x6 j
    ∷ slice_index x7 j ∷ slice_index x8 j ∷ slice_index x9 j ∷ slice_index x10 j ∷ slice_index x11 j ∷ slice_index x12 j ∷ slice_index x13 j
    ∷ slice_index x14 j ∷ slice_index x15 j ∷ []
unfolding lane
lane_of_sixteen x0 x1 x2 x3 x4 x5 x6 x7 x8 x9 x10 x11 x12 x13 x14 x15 j = refl

pub one_step_more : (n : ℕ) (y : List ℕ) → chain_value (n + 1) y ≡ chain_step (chain_value n y)
unfolding chain_value
one_step_more n y = rw add-one refl

pub no_steps : (y : List ℕ) → y ≡ chain_value 0 y
unfolding chain_value
no_steps y = refl

-- one step more on the words
pub words_more : (h next y : List ℕ) (n : ℕ) → next ≡ word_step h → digest_bytes h 8 ≡ chain_value n y → digest_bytes next 8 ≡ chain_value (n + 1) y
words_more h next y n e so_far =
    ap (λ (l : List ℕ). digest_bytes l 8) e ∙ sym (step_bytes h) ∙ ap chain_step so_far ∙ sym (one_step_more n y)
