-- The words that are drawn: the key stream of ChaCha20 (RFC 8439), with Bernstein's layout of
-- counter and stream number.
use Rattle.std.specs.Prelude.{ℕ, ◌+◌, ◌%◌, ◌^◌, List, ◌++◌, replicate}
use Rattle.std.specs.Int.{w64, to_be_bytes}
use Rattle.rand_chacha.specs.ChaCha.{word_at, key_of}

-- the key of a seed: the seed in 8 bytes, the highest first, and 24 zero bytes
abbrev pub seed_key_bytes : ℕ → List ℕ
seed_key_bytes seed = to_be_bytes w64 seed ++ replicate 24 0

-- the word at place k, from 0, of stream 0 under the seed's key
unfoldable pub word : ℕ → ℕ → ℕ
word seed k = word_at 10 (key_of (seed_key_bytes seed)) 0 k

-- the place after k; a stream has 2^68 words
abbrev pub next : ℕ → ℕ
next k = (k + 1) % 2 ^ 68

-- Words under a seed's key, from a place on.
pub record DrawState : Type 0 where
  pub seed : ℕ
  -- the place of the next word
  pub place : ℕ
