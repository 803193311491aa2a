-- What a field says has no other spelling.
use Rattle.std.proofs.Common.{◌≡◌, ◌==◌, ◌&&◌, ℕ, zero, suc, ◌+◌, ◌-◌, ◌*◌, ◌/◌, ◌%◌, ◌^◌, ◌≤◌, ◌<◌, ◌≢◌, nat_le, nat_lt, Bool, true, false, cond, List, []}
use Rattle.std.proofs.Common.{◌∷◌, ◌++◌, length, map, take, drop, decimal, Result, Ok, Err, refl, sym, ap, ap₂, ◌∙◌, subst, arith, append_assoc}
use Rattle.std.proofs.Common.{eqb-true, ltb-true}
use Rattle.std.specs.Prelude.{All, codes}
use Rattle.std.specs.Str.{bytes_eq}
use Rattle.std.specs.List.{list_all}
use Rattle.std.proofs.lemmas.Bool.{leb-true, eqb-false}
use Rattle.std.proofs.lemmas.Fmt.{decimal_digit, decimal_step}
use Rattle.std.proofs.lemmas.List.{append-nil, length-drop, length-take-le, nil_from_length}
use Rattle.std.proofs.lemmas.List.FromFn.{length-map-range_with_len}
use Rattle.hex.specs.declared.error.FromHexError.{FromHexError}
use Rattle.hex.specs.Hex.{IsBytes, encode_lower, decode_sized}
use Rattle.swap_base.specs.Fault.{◌>>=◌}
use Rattle.swap_base.specs.Text.{joined}
use Rattle.swap_base.proofs.Lists.{and_parts}
use Rattle.hash_signature.specs.Signature.{for_chains, signature_value, text_values}
use Rattle.hash_signature.proofs.Chains.{get_or-for_chains}
use Rattle.hash_signature.proofs.Values.{joined-text_values}
use Rattle.hashkey_path.proofs.Validity.{bytes_eq-true}
use Rattle.transcript_book.specs.declared.said.Misspelling.{Misspelling}
use Rattle.transcript_book.specs.Between.{between, longer_first, separated_parts}
use Rattle.typed_books.specs.Typed.{IsDigest, IsSignature}
use Rattle.transcript_book.specs.Words.{list_word, signature_word}
use Rattle.transcript_book.specs.Reading.{misspelt, continue_reading, decimal_number, bounded_number, is_lower_digit, decoded_word, lower_hex_bytes, lower_hex_digest}
use Rattle.transcript_book.specs.Reading.{parse_signature, parse_each_word}
use Rattle.transcript_book.specs.Reading.{listed_field}
use Rattle.transcript_book.proofs.HexDigits.{digits_are}

-- ---- steps of a reading

pub went : {A B : Type 0} (r : Result A Misspelling) (f : A → Result B Misspelling) (y : B) → (r >>= f) ≡ Ok y → (x : A) × (r ≡ Ok x) × (f x ≡ Ok y)
went (Ok x) f y e = (x, refl, e)
went (Err r) f y e = absurd (cc e)

pub ok_is : {A : Type 0} (x y : A) → ◌≡◌ {A = Result A Misspelling} (Ok x) (Ok y) → x ≡ y
ok_is x y e = cc

pub if_ok : {A : Type 0} (t : Bool) (r : Result A Misspelling) (y : A) → cond t r misspelt ≡ Ok y → (t ≡ true) × (r ≡ Ok y)
if_ok true r y e = (refl, e)
if_ok false r y e = absurd (cc e)

-- what f reads is a word of what it says, which meets P
abbrev pub IsExact : {A : Type 0} → (List ℕ → Result A Misspelling) → (A → List ℕ) → (A → Type 0) → Type 0
IsExact {A = A} f word P = (w : List ℕ) (x : A) → f w ≡ Ok x → (w ≡ word x) × P x

-- ---- numbers

read_is : (m : ℕ) (bs : List ℕ) (n : ℕ) → 0 < m → m < 2 ^ 64 → continue_reading m bs ≡ Ok n → (decimal m ++ bs ≡ decimal n) × (n < 2 ^ 64)
read_is m [] n some small e = (append-nil (decimal m) ∙ ap decimal (ok_is m n e), subst (λ k. k < 2 ^ 64) (ok_is m n e) small)
read_is m (b ∷ bs) n some small e =
    let k = m * 10 + (b - 48) in
    let p = if_ok (nat_le 48 b && nat_le b 57 && nat_lt k (2 ^ 64)) (continue_reading k bs) n e in
    let q = and_parts (nat_le 48 b && nat_le b 57) (nat_lt k (2 ^ 64)) p.0 in
    let r = and_parts (nat_le 48 b) (nat_le b 57) q.0 in
    let low : 48 ≤ b = leb-true 48 b r.0 in
    let high : b ≤ 57 = leb-true b 57 r.1 in
    let fits : m * 10 + (b - 48) < 2 ^ 64 = ltb-true (m * 10 + (b - 48)) (2 ^ 64) q.1 in
    let front : (m * 10 + (b - 48)) / 10 ≡ m = omega arith in
    let last : 48 + (m * 10 + (b - 48)) % 10 ≡ b = omega arith in
    let step : decimal (m * 10 + (b - 48)) ≡ decimal m ++ b ∷ [] =
    decimal_step (m * 10 + (b - 48)) (omega arith) fits ∙ ap₂ (λ (x y : ℕ). decimal x ++ y ∷ []) front last in
    let rest = read_is (m * 10 + (b - 48)) bs n (omega arith) fits p.1 in
    (sym (append_assoc (decimal m) (b ∷ []) bs) ∙ ap (λ (l : List ℕ). l ++ bs) (sym step) ∙ rest.0, rest.1)

first_is : (b : ℕ) (bs : List ℕ) (n : ℕ) → b ≢ 48 → continue_reading 0 (b ∷ bs) ≡ Ok n → (b ∷ bs ≡ decimal n) × (n < 2 ^ 64)
first_is b bs n other e =
    let k = 0 * 10 + (b - 48) in
    let p = if_ok (nat_le 48 b && nat_le b 57 && nat_lt k (2 ^ 64)) (continue_reading k bs) n e in
    let q = and_parts (nat_le 48 b && nat_le b 57) (nat_lt k (2 ^ 64)) p.0 in
    let r = and_parts (nat_le 48 b) (nat_le b 57) q.0 in
    let low : 48 ≤ b = leb-true 48 b r.0 in
    let high : b ≤ 57 = leb-true b 57 r.1 in
    let back : 48 + (0 * 10 + (b - 48)) ≡ b = omega arith in
    let one : decimal (0 * 10 + (b - 48)) ≡ b ∷ [] = decimal_digit (0 * 10 + (b - 48)) (omega arith) ∙ ap (λ (x : ℕ). x ∷ []) back in
    let rest = read_is (0 * 10 + (b - 48)) bs n (omega arith) (omega arith) p.1 in
    (ap (λ (l : List ℕ). l ++ bs) (sym one) ∙ rest.0, rest.1)

pub number_is : IsExact decimal_number decimal (λ n. n < 2 ^ 64)
number_is [] n e = absurd (cc e)
number_is (b ∷ bs) n e = by (b == 48) refl e
  where
    by : (t : Bool) → (b == 48) ≡ t → cond t (cond (length bs == 0) (Ok 0) misspelt) (continue_reading 0 (b ∷ bs)) ≡ Ok n → (b ∷ bs ≡ decimal n) × (n < 2 ^ 64)
    by true q k =
        let p = if_ok (length bs == 0) (Ok 0) n k in
        let none : bs ≡ [] = nil_from_length bs (eqb-true (length bs) 0 p.0) in
        let is : 0 ≡ n = ok_is 0 n p.1 in
        (ap₂ (λ (x : ℕ) (l : List ℕ). x ∷ l) (eqb-true b 48 q) none ∙ sym (decimal_digit 0 (omega arith)) ∙ ap decimal is, omega arith)
    by false q k = first_is b bs n (eqb-false b 48 q) k

pub below_is : (limit : ℕ) → IsExact (bounded_number limit) decimal (λ n. n < limit)
below_is limit w n e =
    let p = went (decimal_number w) (λ m. cond (nat_lt m limit) (Ok m) misspelt) n e in
    let q = if_ok (nat_lt p.0 limit) (Ok p.0) n p.2 in
    let same : p.0 ≡ n = ok_is p.0 n q.1 in
    ((number_is w p.0 p.1).0 ∙ ap decimal same, subst (λ m. m < limit) same (ltb-true p.0 limit q.0))

-- ---- digests and signatures

decoded_ok : (r : Result (List ℕ) FromHexError) (xs : List ℕ) → decoded_word r ≡ Ok xs → r ≡ Ok xs
decoded_ok (Ok ys) xs e = ap (λ (l : List ℕ). Ok l) (ok_is ys xs e)
decoded_ok (Err f) xs e = absurd (cc e)

bytes_are : (n : ℕ) (w xs : List ℕ) → lower_hex_bytes n w ≡ Ok xs → (w ≡ encode_lower xs) × (length xs ≡ n) × IsBytes xs
bytes_are n w xs e =
    let p = if_ok (list_all is_lower_digit w) (decoded_word (decode_sized w n)) xs e in
    digits_are n w xs p.0 (decoded_ok (decode_sized w n) xs p.1)

pub digest_is : IsExact lower_hex_digest encode_lower IsDigest
digest_is w xs e = let k = bytes_are 32 w xs e in (k.0, record { size = k.1; bytes = k.2 })

bytes_cons : (x : ℕ) (xs : List ℕ) → x < 256 → IsBytes xs → IsBytes (x ∷ xs)
bytes_cons x xs small h zero = small
bytes_cons x xs small h (suc i) = h i

bytes_drop : (n : ℕ) (xs : List ℕ) → IsBytes xs → IsBytes (drop n xs)
bytes_drop zero xs h = h
bytes_drop (suc n) [] h = h
bytes_drop (suc n) (x ∷ xs) h = bytes_drop n xs (λ i. h (suc i))

bytes_take : (n : ℕ) (xs : List ℕ) → IsBytes xs → IsBytes (take n xs)
bytes_take zero xs h = λ i. omega arith
bytes_take (suc n) [] h = h
bytes_take (suc n) (x ∷ xs) h = bytes_cons x (take n xs) (h 0) (bytes_take n xs (λ i. h (suc i)))

value_is : (bytes : List ℕ) (j : ℕ) → length bytes ≡ 2144 → IsBytes bytes → j < 67 → IsDigest (signature_value bytes j)
value_is bytes j size h lt = record {
  size = length-take-le 32 (drop (32 * j) bytes) (omega (arith, length-drop (32 * j) bytes));
  bytes = bytes_take 32 (drop (32 * j) bytes) (bytes_drop (32 * j) bytes h);
}

pub many_values : (bytes : List ℕ) → length (text_values bytes) ≡ 67
unfolding text_values for_chains
many_values bytes = length-map-range_with_len (signature_value bytes) 0 67

pub each_value : (bytes : List ℕ) → length bytes ≡ 2144 → IsBytes bytes → All IsDigest (text_values bytes)
unfolding text_values
each_value bytes size h j d lt =
    let below : j < 67 = omega (arith, many_values bytes) in
    subst IsDigest (sym (get_or-for_chains (signature_value bytes) j d below)) (value_is bytes j size h below)

pub signature_is : IsExact parse_signature signature_word IsSignature
signature_is w s e =
    let p = went (lower_hex_bytes 2144 w) (λ bytes. Ok (text_values bytes)) s e in
    let k = bytes_are 2144 w p.0 p.1 in
    let same : text_values p.0 ≡ s = ok_is (text_values p.0) s p.2 in
    let back : joined s ≡ p.0 = ap joined (sym same) ∙ joined-text_values p.0 k.1 in
    (k.0 ∙ ap encode_lower (sym back), subst IsSignature same (record { size = many_values p.0; values = each_value p.0 k.1 k.2 }))

-- ---- parts of a text

longer_between : (b x : ℕ) (ws : List (List ℕ)) → between b (longer_first x ws) ≡ x ∷ between b ws
longer_between b x [] = refl
longer_between b x (w ∷ []) = refl
longer_between b x (w ∷ v ∷ ws) = refl

-- some part stands before those after the first byte b
pub parts_some : (b : ℕ) (xs : List ℕ) → 0 < length (separated_parts b xs)
parts_some b [] = omega arith
parts_some b (x ∷ xs) = by (x == b) (separated_parts b xs) (parts_some b xs)
  where
    by : (t : Bool) (ws : List (List ℕ)) → 0 < length ws → 0 < length (cond t ([] ∷ ws) (longer_first x ws))
    by true ws some = omega arith
    by false [] some = omega arith
    by false (w ∷ ws) some = omega arith

between_after : (b : ℕ) (ws : List (List ℕ)) → 0 < length ws → between b ([] ∷ ws) ≡ b ∷ between b ws
between_after b [] some = absurd (omega arith)
between_after b (w ∷ ws) some = refl

-- the text is its parts, with the byte between each two of them
pub parts_whole : (b : ℕ) (xs : List ℕ) → between b (separated_parts b xs) ≡ xs
parts_whole b [] = refl
parts_whole b (x ∷ xs) = by (x == b) refl (parts_whole b xs)
  where
    by : (t : Bool) → (x == b) ≡ t → between b (separated_parts b xs) ≡ xs
        → between b (cond t ([] ∷ separated_parts b xs) (longer_first x (separated_parts b xs))) ≡ x ∷ xs
    by true e rest = between_after b (separated_parts b xs) (parts_some b xs) ∙ ap₂ (λ (y : ℕ) (l : List ℕ). y ∷ l) (sym (eqb-true x b e)) rest
    by false e rest = longer_between b x (separated_parts b xs) ∙ ap (λ (l : List ℕ). x ∷ l) rest

-- ---- lists

module _ {A : Type 0} (f : List ℕ → Result A Misspelling) (word : A → List ℕ) (P : A → Type 0) (exact : IsExact f word P) where
  all_cons : (x : A) (xs : List A) → P x → All P xs → All P (x ∷ xs)
  all_cons x xs p h zero d lt = p
  all_cons x xs p h (suc i) d lt = h i d (omega arith)

  none_all : All P []
  none_all i d lt = absurd (omega arith)

  each_is : (ws : List (List ℕ)) (xs : List A) → parse_each_word f ws ≡ Ok xs → (ws ≡ map word xs) × All P xs
  each_is [] xs e = let same : [] ≡ xs = ok_is [] xs e in (ap (map word) same, subst (λ (l : List A). All P l) same none_all)
  each_is (w ∷ ws) xs e =
      let p = went (f w) _ xs e in
      let q = went (parse_each_word f ws) _ xs p.2 in
      let same : p.0 ∷ q.0 ≡ xs = ok_is (p.0 ∷ q.0) xs q.2 in
      let one = exact w p.0 p.1 in
      let rest = each_is ws q.0 q.1 in (
        ap₂ (λ (v : List ℕ) (vs : List (List ℕ)). v ∷ vs) one.0 rest.0 ∙ ap (map word) same,
        subst (λ (l : List A). All P l) same (all_cons p.0 q.0 one.1 rest.1),
      )

  some_word : (ws : List (List ℕ)) (xs : List A) → 0 < length ws → ws ≡ map word xs → between 44 ws ≡ list_word (map word xs)
  some_word ws [] some e = absurd (omega (arith, some, ap length e))
  some_word ws (x ∷ xs) some e = ap (between 44) e

  pub list_is : IsExact (listed_field f) (λ xs. list_word (map word xs)) (All P)
  list_is w xs e = by (bytes_eq w (codes "-")) refl e
    where
      by : (t : Bool) → bytes_eq w (codes "-") ≡ t → cond t (Ok []) (parse_each_word f (separated_parts 44 w)) ≡ Ok xs → (w ≡ list_word (map word xs)) × All P xs
      by true q k =
          let same : [] ≡ xs = ok_is [] xs k in (
            bytes_eq-true w (codes "-") q ∙ ap (λ (l : List A). list_word (map word l)) same,
            subst (λ (l : List A). All P l) same none_all,
          )
      by false q k =
          let h = each_is (separated_parts 44 w) xs k in
          (sym (parts_whole 44 w) ∙ some_word (separated_parts 44 w) xs (parts_some 44 w) h.0, h.1)
