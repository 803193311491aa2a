-- Hexadecimal digits of lower case, and their values.
use Rattle.std.proofs.Common.{◌≡◌, ◌≢◌, ◌==◌, ◌&&◌, ◌||◌, ℕ, zero, suc, ◌-◌, ◌/◌, ◌%◌, ◌≤◌, ◌<◌, nat_le, nat_lt, Bool, true, false, not}
use Rattle.std.proofs.Common.{List, length, Option, Some, None, Err, refl, ap, ◌∙◌, arith, eqb-true, ltb-true, subst}
use Rattle.std.specs.Prelude.{if◌then◌else◌}
use Rattle.std.proofs.lemmas.Bool.{leb-true, eqb-false}
use Rattle.hex.specs.Hex.{decode_pairs, decode_sized, hex_digit_value}
use Rattle.hex.specs.declared.error.FromHexError.TheVariants.{InvalidStringLength, OddLength}
use Rattle.swap_base.proofs.Lists.{and_parts}
use Rattle.transcript_book.specs.Reading.{decoded_word, is_lower_digit, misspelt}

abbrev pub field_value : ℕ → ℕ
field_value c = if nat_le c 57 then c - 48 else c - 87

abbrev has : ℕ → Option ℕ → Bool
has v (Some w) = (w == v) && nat_lt w 16
has v None = false

abbrev is_valued : ℕ → Bool
is_valued c = not (is_lower_digit c) || has (field_value c) (hex_digit_value c)

abbrev are_valued : ℕ → Bool
are_valued zero = true
are_valued (suc n) = is_valued n && are_valued n

valued_at : (n c : ℕ) → are_valued n ≡ true → c < n → is_valued c ≡ true
valued_at zero c e lt = absurd (omega arith)
valued_at (suc n) c e lt = by (c == n) refl (valued_at n c (and_parts (is_valued n) (are_valued n) e).1)
  where
    by : (t : Bool) → (c == n) ≡ t → (c < n → is_valued c ≡ true) → is_valued c ≡ true
    by true q below = ap is_valued (eqb-true c n q) ∙ (and_parts (is_valued n) (are_valued n) e).0
    by false q below = below (let other : c ≢ n = eqb-false c n q in omega arith)

-- a lower digit is one of 0 to 9 or of a to f
pub lower_low : (c : ℕ) → is_lower_digit c ≡ true → c ≤ 57 → 48 ≤ c
lower_low c e le = by (nat_le 48 c) (nat_le c 57) (nat_le 97 c) (nat_le c 102) refl refl e
  where
    by : (s t u v : Bool) → nat_le 48 c ≡ s → nat_le 97 c ≡ u → ((s && t) || (u && v)) ≡ true → 48 ≤ c
    by true t u v p q k = leb-true 48 c p
    by false t true v p q k = let high : 97 ≤ c = leb-true 97 c q in omega arith
    by false t false v p q k = absurd (cc k)

pub lower_high : (c : ℕ) → is_lower_digit c ≡ true → 57 < c → 97 ≤ c
lower_high c e lt = by (nat_le 48 c) (nat_le c 57) (nat_le 97 c) (nat_le c 102) refl refl e
  where
    by : (s t u v : Bool) → nat_le c 57 ≡ t → nat_le 97 c ≡ u → ((s && t) || (u && v)) ≡ true → 97 ≤ c
    by s t true v p q k = leb-true 97 c q
    by true true false v p q k = let low : c ≤ 57 = leb-true c 57 p in omega arith
    by true false false v p q k = absurd (cc k)
    by false t false v p q k = absurd (cc k)

-- a lower digit stands before the 103rd
pub below_103 : (c : ℕ) → is_lower_digit c ≡ true → c < 103
below_103 c e = by (nat_le 48 c) (nat_le c 57) (nat_le 97 c) (nat_le c 102) refl refl e
  where
    by : (s t u v : Bool) → nat_le c 57 ≡ t → nat_le c 102 ≡ v → ((s && t) || (u && v)) ≡ true → c < 103
    by true true u v p q k = let high : c ≤ 57 = leb-true c 57 p in omega arith
    by true false true true p q k = let high : c ≤ 102 = leb-true c 102 q in omega arith
    by true false true false p q k = absurd (cc k)
    by true false false v p q k = absurd (cc k)
    by false t true true p q k = let high : c ≤ 102 = leb-true c 102 q in omega arith
    by false t true false p q k = absurd (cc k)
    by false t false v p q k = absurd (cc k)

-- the value of a lower digit
pub value_is : (c : ℕ) → is_lower_digit c ≡ true → (hex_digit_value c ≡ Some (field_value c)) × (field_value c < 16)
value_is c lower = by (is_lower_digit c) (hex_digit_value c) lower (valued_at 103 c refl (below_103 c lower))
  where
    by : (t : Bool) (o : Option ℕ) → t ≡ true → (not t || has (field_value c) o) ≡ true → (o ≡ Some (field_value c)) × (field_value c < 16)
    by true (Some w) l k =
        let both = and_parts (w == field_value c) (nat_lt w 16) k in
        let same : w ≡ field_value c = eqb-true w (field_value c) both.0 in
        (ap (λ (v : ℕ). Some v) same, subst (λ n. n < 16) same (ltb-true w 16 both.1))
    by true None l k = absurd (cc k)
    by false o l k = absurd (cc l)

-- a text of another length says no signature
pub wrong_length : (w : List ℕ) → length w ≢ 4288 → decoded_word (decode_sized w 2144) ≡ misspelt
wrong_length w off = by (length w % 2 == 1) (length w / 2 == 2144) refl refl
  where
    by : (s t : Bool) → (length w % 2 == 1) ≡ s → (length w / 2 == 2144) ≡ t
        → decoded_word (if s then Err OddLength else (if t then decode_pairs 0 w else Err InvalidStringLength)) ≡ misspelt
    by true t p q = refl
    by false false p q = refl
    by false true p q =
        let half : length w / 2 ≡ 2144 = eqb-true (length w / 2) 2144 q in
        let even : length w % 2 ≢ 1 = eqb-false (length w % 2) 1 p in
        absurd (off (omega (arith, half, even)))
