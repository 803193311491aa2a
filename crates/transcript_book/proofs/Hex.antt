-- Bytes are read back from their hexadecimal digits.
use Rattle.std.proofs.Common.{◌≡◌, ◌&&◌, ◌||◌, ℕ, zero, suc, ◌+◌, ◌*◌, ◌/◌, ◌%◌, ◌≤◌, ◌<◌, ◌==◌, nat_le, Bool, true, false, cond, List, [], ◌∷◌}
use Rattle.std.proofs.Common.{◌++◌, length, slice_index, Result, Ok, refl, ap, ◌∙◌, arith, length-append, eqb-true, ◌≢◌}
use Rattle.std.specs.List.{list_all}
use Rattle.std.specs.Prelude.{All}
use Rattle.std.proofs.lemmas.Bool.{le-leb, leb-true, eqb-false}
use Rattle.hex.specs.Hex.{IsBytes, encode_lower, encode_with, lower_digits, decode_sized}
use Rattle.hex.proofs.HexLemmas.{decode_sized-encode_lower, length-encode_with}
use Rattle.swap_base.specs.Fault.{◌>>=◌}
use Rattle.swap_base.specs.Text.{joined}
use Rattle.swap_base.proofs.Lists.{and_parts, and_both}
use Rattle.hash_signature.specs.declared.sig.Sig.{Sig}
use Rattle.hash_signature.specs.Signature.{text_values}
use Rattle.hash_signature.proofs.Values.{text_values-joined}
use Rattle.transcript_book.specs.declared.said.Misspelling.{Misspelling}
use Rattle.transcript_book.specs.Reading.{misspelt, is_lower_digit, decoded_word, lower_hex_bytes, lower_hex_digest, parse_signature}
use Rattle.typed_books.specs.Typed.{IsDigest, IsSignature}
use Rattle.transcript_book.specs.Words.{signature_word}
use Rattle.transcript_book.proofs.SeparatedParts.{IsHigh}

-- the first n digits are lower ones
abbrev are_lower : ℕ → Bool
are_lower zero = true
are_lower (suc n) = is_lower_digit (slice_index lower_digits n) && are_lower n

are_lower-at : (n k : ℕ) → are_lower n ≡ true → k < n → is_lower_digit (slice_index lower_digits k) ≡ true
are_lower-at zero k e lt = absurd (omega arith)
are_lower-at (suc n) k e lt = by (k == n) refl (are_lower-at n k (and_parts (is_lower_digit (slice_index lower_digits n)) (are_lower n) e).1)
  where
    by : (t : Bool) → (k == n) ≡ t → (k < n → is_lower_digit (slice_index lower_digits k) ≡ true) → is_lower_digit (slice_index lower_digits k) ≡ true
    by true q below =
        ap (λ i. is_lower_digit (slice_index lower_digits i)) (eqb-true k n q)
        ∙ (and_parts (is_lower_digit (slice_index lower_digits n)) (are_lower n) e).0
    by false q below = below (let other : k ≢ n = eqb-false k n q in omega arith)

digit_is_lower : (k : ℕ) → k < 16 → is_lower_digit (slice_index lower_digits k) ≡ true
digit_is_lower k lt = are_lower-at 16 k refl lt

lower_word : (xs : List ℕ) → IsBytes xs → list_all is_lower_digit (encode_with lower_digits xs) ≡ true
unfolding encode_with
lower_word [] h = refl
lower_word (b ∷ xs) h =
    let small : b < 256 = h 0 in
    and_both (is_lower_digit (slice_index lower_digits (b / 16))) _ (digit_is_lower (b / 16) (omega arith))
    (and_both (is_lower_digit (slice_index lower_digits (b % 16))) (list_all is_lower_digit (encode_with lower_digits xs))
    (digit_is_lower (b % 16) (omega arith)) (lower_word xs (λ i. h (suc i))))

lower_is_high : (b : ℕ) → is_lower_digit b ≡ true → nat_le 48 b ≡ true
lower_is_high b e = by (nat_le 48 b) (nat_le b 57) (nat_le 97 b) refl refl e
  where
    by : (s t u : Bool) → nat_le 48 b ≡ s → nat_le 97 b ≡ u → ((s && t) || (u && nat_le b 102)) ≡ true → nat_le 48 b ≡ true
    by true t u p q k = p
    by false t true p q k = let low : 97 ≤ b = leb-true 97 b q in le-leb 48 b (omega arith)
    by false t false p q k = absurd (cc k)

high_lower : (w : List ℕ) → list_all is_lower_digit w ≡ true → IsHigh 48 w
high_lower [] h = refl
high_lower (b ∷ w) h = let p =
    and_parts (is_lower_digit b) (list_all is_lower_digit w) h in
    and_both (nat_le 48 b) (list_all (λ y. nat_le 48 y) w) (lower_is_high b p.0) (high_lower w p.1)

pub high_hex : (xs : List ℕ) → IsBytes xs → IsHigh 48 (encode_lower xs)
high_hex xs h = high_lower (encode_lower xs) (lower_word xs h)

bytes_back : (n : ℕ) (xs : List ℕ) → length xs ≡ n → IsBytes xs → lower_hex_bytes n (encode_lower xs) ≡ Ok xs
bytes_back n xs size h =
    ap (λ t. cond t (decoded_word (decode_sized (encode_lower xs) n)) misspelt) (lower_word xs h) ∙ ap decoded_word (decode_sized-encode_lower xs n size h)

pub digest_back : (x : List ℕ) → IsDigest x → lower_hex_digest (encode_lower x) ≡ Ok x
digest_back x k = bytes_back 32 x k.size k.bytes

-- the bytes of digests, one after another

bytes_cons : (x : ℕ) (xs : List ℕ) → x < 256 → IsBytes xs → IsBytes (x ∷ xs)
bytes_cons x xs small h zero = small
bytes_cons x xs small h (suc i) = h i

bytes_append : (xs ys : List ℕ) → IsBytes xs → IsBytes ys → IsBytes (xs ++ ys)
bytes_append [] ys h k = k
bytes_append (x ∷ xs) ys h k = bytes_cons x (xs ++ ys) (h 0) (bytes_append xs ys (λ j. h (suc j)) k)

no_bytes : IsBytes []
no_bytes i = omega arith

pub joined_bytes : (ds : List (List ℕ)) → All IsDigest ds → IsBytes (joined ds)
joined_bytes [] h = no_bytes
joined_bytes (d ∷ ds) h = bytes_append d (joined ds) (h 0 d (omega arith)).bytes (joined_bytes ds (λ k e lt. h (suc k) e (omega arith)))

joined_size : (ds : List (List ℕ)) → All IsDigest ds → length (joined ds) ≡ 32 * length ds
joined_size [] h = refl
joined_size (d ∷ ds) h =
    let first : length d ≡ 32 = (h 0 d (omega arith)).size in
    let rest = joined_size ds (λ k e lt. h (suc k) e (omega arith)) in
    omega (arith, length-append d (joined ds))

pub signature_back : (s : Sig) → IsSignature s → parse_signature (signature_word s) ≡ Ok s
signature_back s k =
    let many : length s ≡ 67 = k.size in
    let size : length (joined s) ≡ 2144 = omega (arith, joined_size s k.values) in
    ap (λ (r : Result (List ℕ) Misspelling). r >>= λ bytes. Ok (text_values bytes)) (bytes_back 2144 (joined s) size (joined_bytes s k.values))
    ∙ ap (λ (v : List (List ℕ)). Ok v) (text_values-joined s many (λ i lt. (k.values i [] (omega arith)).size))

pub high_signature : (s : Sig) → IsSignature s → IsHigh 48 (signature_word s)
high_signature s k = high_hex (joined s) (joined_bytes s k.values)

-- a digest's digits are there
pub some_hex : (xs : List ℕ) → 0 < length xs → 0 < length (encode_lower xs)
some_hex xs some = omega (arith, length-encode_with lower_digits xs)

pub some_signature : (s : Sig) → IsSignature s → 0 < length (signature_word s)
some_signature s k =
    let many : length s ≡ 67 = k.size in
    some_hex (joined s) (omega (arith, joined_size s k.values))
