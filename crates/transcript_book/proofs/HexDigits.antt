-- Hexadecimal digits of lower case are those of the bytes that are read of them.
use Rattle.std.proofs.Common.{◌≡◌, ◌==◌, ◌&&◌, ◌||◌, ℕ, zero, suc, ◌+◌, ◌*◌, ◌/◌, ◌%◌, ◌<◌, nat_lt, Bool, true, false, not, List, []}
use Rattle.std.proofs.Common.{◌∷◌, length, slice_index, Option, Some, None, Result, Ok, Err, refl, sym, ap, ap₂, ◌∙◌, arith, eqb-true, ltb-true, ◌≢◌, subst}
use Rattle.std.specs.List.{list_all}
use Rattle.std.proofs.lemmas.Bool.{eqb-false}
use Rattle.hex.specs.declared.error.FromHexError.{FromHexError}
use Rattle.hex.specs.Hex.{◌>>=◌, IsBytes, encode_lower, encode_with, lower_digits, decode_pairs, decode_sized, digit_or_error, hex_digit_value, pair_value}
use Rattle.hex.specs.Hex.{value_at}
use Rattle.hex.proofs.HexLemmas.{decode_pairs-ok, decode_sized-ok}
use Rattle.hex.proofs.Pairs.{decode_sized-pairs}
use Rattle.swap_base.proofs.Lists.{and_parts}
use Rattle.transcript_book.specs.Reading.{is_lower_digit}
use Rattle.transcript_book.proofs.Lower.{below_103}

went : {A B : Type 0} (r : Result A FromHexError) (f : A → Result B FromHexError) (y : B) → (r >>= f) ≡ Ok y → (x : A) × (r ≡ Ok x) × (f x ≡ Ok y)
went (Ok x) f y e = (x, refl, e)
went (Err r) f y e = absurd (cc e)

ok_is : {A : Type 0} (x y : A) → ◌≡◌ {A = Result A FromHexError} (Ok x) (Ok y) → x ≡ y
ok_is x y e = cc

-- the value of each lower digit is its place among the digits

abbrev is_at : ℕ → Option ℕ → Bool
is_at c (Some v) = (slice_index lower_digits v == c) && nat_lt v 16
is_at c None = false

abbrev is_placed : ℕ → Bool
is_placed c = not (is_lower_digit c) || is_at c (hex_digit_value c)

abbrev are_placed : ℕ → Bool
are_placed zero = true
are_placed (suc n) = is_placed n && are_placed n

placed_at : (n c : ℕ) → are_placed n ≡ true → c < n → is_placed c ≡ true
placed_at zero c e lt = absurd (omega arith)
placed_at (suc n) c e lt = by (c == n) refl (placed_at n c (and_parts (is_placed n) (are_placed n) e).1)
  where
    by : (t : Bool) → (c == n) ≡ t → (c < n → is_placed c ≡ true) → is_placed c ≡ true
    by true q below = ap is_placed (eqb-true c n q) ∙ (and_parts (is_placed n) (are_placed n) e).0
    by false q below = below (let other : c ≢ n = eqb-false c n q in omega arith)

digit_is : (c i v : ℕ) → is_lower_digit c ≡ true → value_at c i ≡ Ok v → (slice_index lower_digits v ≡ c) × (v < 16)
digit_is c i v lower e = by (is_lower_digit c) (hex_digit_value c) lower (placed_at 103 c refl (below_103 c lower)) e
  where
    by : (t : Bool) (o : Option ℕ) → t ≡ true → (not t || is_at c o) ≡ true → digit_or_error c i o ≡ Ok v → (slice_index lower_digits v ≡ c) × (v < 16)
    by true (Some w) l k r =
        let both = and_parts (slice_index lower_digits w == c) (nat_lt w 16) k in
        let same : w ≡ v = ok_is w v r in
        (ap (slice_index lower_digits) (sym same) ∙ eqb-true (slice_index lower_digits w) c both.0, subst (λ n. n < 16) same (ltb-true w 16 both.1))
    by true None l k r = absurd (cc k)
    by false o l k r = absurd (cc l)

pairs_are : (i : ℕ) (w xs : List ℕ) → list_all is_lower_digit w ≡ true → decode_pairs i w ≡ Ok xs → w ≡ encode_lower xs
unfolding decode_pairs encode_with
pairs_are i [] xs h e = ap encode_lower (ok_is [] xs e)
pairs_are i (a ∷ []) xs h e = absurd (cc e)
pairs_are i (a ∷ b ∷ rest) xs h e =
    let first = and_parts (is_lower_digit a) (list_all is_lower_digit (b ∷ rest)) h in
    let second = and_parts (is_lower_digit b) (list_all is_lower_digit rest) first.1 in
    let p = went (pair_value a b i) _ xs e in
    let q = went (decode_pairs (i + 2) rest) _ xs p.2 in
    let high = went (value_at a i) _ p.0 p.1 in
    let low = went (value_at b (i + 1)) _ p.0 high.2 in
    let h = digit_is a i high.0 first.0 high.1 in
    let l = digit_is b (i + 1) low.0 second.0 low.1 in
    let byte : high.0 * 16 + low.0 ≡ p.0 = ok_is (high.0 * 16 + low.0) p.0 low.2 in
    let above : p.0 / 16 ≡ high.0 = omega (arith, h.1, l.1) in
    let below : p.0 % 16 ≡ low.0 = omega (arith, h.1, l.1) in
    ap₂ (λ (x y : ℕ). x ∷ y ∷ rest) (sym h.0 ∙ ap (slice_index lower_digits) (sym above)) (sym l.0 ∙ ap (slice_index lower_digits) (sym below))
    ∙ ap (λ (r : List ℕ). slice_index lower_digits (p.0 / 16) ∷ slice_index lower_digits (p.0 % 16) ∷ r) (pairs_are (i + 2) rest q.0 second.1 q.1)
    ∙ ap encode_lower (ok_is (p.0 ∷ q.0) xs q.2)

-- n bytes
pub digits_are : (n : ℕ) (w xs : List ℕ) → list_all is_lower_digit w ≡ true → decode_sized w n ≡ Ok xs → (w ≡ encode_lower xs) × (length xs ≡ n) × IsBytes xs
digits_are n w xs h e =
    let long : length w ≡ 2 * n = decode_sized-ok w n xs e in
    let pairs : decode_pairs 0 w ≡ Ok xs = sym (decode_sized-pairs w n (omega arith) (omega arith)) ∙ e in
    let k = decode_pairs-ok 0 w xs pairs in
    let size : length w ≡ 2 * length xs = k.1 in
    (pairs_are 0 w xs h pairs, omega arith, k.2)
