-- Digests as messages: a signature over a digest is valid.
use Rattle.std.proofs.Common.{ℕ, zero, suc, ◌<◌, List, [], ◌∷◌, ◌++◌, get_or, arith}
use Rattle.std.specs.Prelude.{IsTrue, slice_index}
use Rattle.std.specs.Int.{to_be_bytes, w32}
use Rattle.sha2.specs.Sha256.{digest_bytes, sha256}
use Rattle.sha2.proofs.Facts256.{length-sha256}
use Rattle.hash_signature.specs.Signature.{is_valid_signature, derive_public_key, made_signature}
use Rattle.hash_signature.proofs.MessageDigits.{digits_small}
use Rattle.hash_signature.proofs.Validity.{signed_is_valid}

append_below : (xs ys : List ℕ) → ((j : ℕ) → get_or xs j 0 < 256) → ((j : ℕ) → get_or ys j 0 < 256) → (j : ℕ) → get_or (xs ++ ys) j 0 < 256
append_below [] ys a b j = b j
append_below (x ∷ xs) ys a b zero = a 0
append_below (x ∷ xs) ys a b (suc j) = append_below xs ys (λ k. a (suc k)) b j

word_below : (n j : ℕ) → get_or (to_be_bytes w32 n) j 0 < 256
word_below n zero = omega arith
word_below n (suc zero) = omega arith
word_below n (suc (suc zero)) = omega arith
word_below n (suc (suc (suc zero))) = omega arith
word_below n (suc (suc (suc (suc j)))) = omega arith

words_below : (h : List ℕ) (n j : ℕ) → get_or (digest_bytes h n) j 0 < 256
unfolding digest_bytes
words_below h zero j = omega arith
words_below h (suc n) j = append_below (digest_bytes h n) (to_be_bytes w32 (slice_index h n)) (words_below h n) (word_below (slice_index h n)) j

pub digest_below : (m : List ℕ) (j : ℕ) → get_or (sha256 m) j 0 < 256
unfolding sha256
digest_below m j = words_below _ 8 j

-- what is signed over a digest is valid for it
pub digest_signed : (seed : List ℕ) (v i : ℕ) (m : List ℕ)
    → IsTrue (is_valid_signature (derive_public_key seed v i) (sha256 m) (made_signature seed v i (sha256 m)))
digest_signed seed v i m = signed_is_valid seed v i (sha256 m) (digits_small (sha256 m) (length-sha256 m) (digest_below m))
