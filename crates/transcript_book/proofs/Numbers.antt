-- A number is read back from its decimal digits.
use Rattle.std.proofs.Common.{◌≡◌, ◌==◌, ◌&&◌, ℕ, ◌+◌, ◌-◌, ◌*◌, ◌/◌, ◌%◌, ◌^◌, ◌≤◌, ◌<◌, nat_le, nat_lt, Bool, true, false, cond, List, [], ◌∷◌}
use Rattle.std.proofs.Common.{◌++◌, length, get_or, decimal, Result, Ok, refl, ap, ◌∙◌, arith, eqb-true, lt-ltb, ltb-true, ltb-false}
use Rattle.std.proofs.lemmas.Bool.{le-leb}
use Rattle.std.proofs.lemmas.Fmt.{decimal_digit, decimal_by_steps, decimal_nonempty, first_decimal}
use Rattle.swap_base.specs.Fault.{◌>>=◌}
use Rattle.swap_base.proofs.Lists.{and_both}
use Rattle.transcript_book.specs.declared.said.Misspelling.{Misspelling}
use Rattle.transcript_book.specs.Reading.{misspelt, continue_reading, decimal_number, bounded_number}
use Rattle.transcript_book.proofs.SeparatedParts.{IsHigh, high_append}

-- one more digit
one_digit : (m d : ℕ) → d < 10 → m * 10 + d < 2 ^ 64 → continue_reading m ((48 + d) ∷ []) ≡ Ok (m * 10 + d)
one_digit m d lt small =
    let back : 48 + d - 48 ≡ d = omega arith in
    let low : nat_le 48 (48 + d) ≡ true = le-leb 48 (48 + d) (omega arith) in
    let high : nat_le (48 + d) 57 ≡ true = le-leb (48 + d) 57 (omega arith) in
    let fits : nat_lt (m * 10 + d) (2 ^ 64) ≡ true = lt-ltb (m * 10 + d) (2 ^ 64) small in
    rw (back, low, high, fits) refl

read_append : (m : ℕ) (bs cs : List ℕ) → continue_reading m (bs ++ cs) ≡ continue_reading m bs >>= λ n. continue_reading n cs
read_append m [] cs = refl
read_append m (b ∷ bs) cs = by (nat_le 48 b && nat_le b 57 && nat_lt (m * 10 + (b - 48)) (2 ^ 64)) (read_append (m * 10 + (b - 48)) bs cs)
  where
    by : (t : Bool) → continue_reading (m * 10 + (b - 48)) (bs ++ cs) ≡ continue_reading (m * 10 + (b - 48)) bs >>= (λ n. continue_reading n cs)
        → cond t (continue_reading (m * 10 + (b - 48)) (bs ++ cs)) misspelt
        ≡ cond t (continue_reading (m * 10 + (b - 48)) bs) misspelt >>= λ n. continue_reading n cs
    by true e = e
    by false e = refl

abbrev IsRead : ℕ → List ℕ → Type 0
IsRead n ds = n < 2 ^ 64 → continue_reading 0 ds ≡ Ok n

reads_one : (n : ℕ) → n < 10 → IsRead n ((48 + n) ∷ [])
reads_one n lt small = one_digit 0 n lt (omega arith) ∙ ap (λ (m : ℕ). Ok m) (let z : ◌≡◌ {A = ℕ} (0 * 10 + n) n = omega arith in z)

reads_more : (n : ℕ) (ds : List ℕ) → 10 ≤ n → IsRead (n / 10) ds → IsRead n (ds ++ ((48 + n % 10) ∷ []))
reads_more n ds le front small =
    let parts : n / 10 * 10 + n % 10 ≡ n = omega arith in
    let before : n / 10 < 2 ^ 64 = omega arith in
    read_append 0 ds ((48 + n % 10) ∷ []) ∙ ap (λ (r : Result ℕ Misspelling). r >>= λ m. continue_reading m ((48 + n % 10) ∷ [])) (front before)
    ∙ one_digit (n / 10) (n % 10) (omega arith) (omega arith) ∙ ap (λ (m : ℕ). Ok m) parts

other_first : (ds : List ℕ) → 0 < length ds → 48 < get_or ds 0 0 → decimal_number ds ≡ continue_reading 0 ds
other_first [] some first = absurd (omega arith)
other_first (b ∷ bs) some first = by (b == 48) refl
  where
    by : (t : Bool) → (b == 48) ≡ t → cond (b == 48) (cond (length bs == 0) (Ok 0) misspelt) (continue_reading 0 (b ∷ bs)) ≡ continue_reading 0 (b ∷ bs)
    by true e = let same : b ≡ 48 = eqb-true b 48 e in absurd (omega arith)
    by false e = ap (λ t. cond t (cond (length bs == 0) (Ok 0) misspelt) (continue_reading 0 (b ∷ bs))) e

pub number_back : (n : ℕ) → n < 2 ^ 64 → decimal_number (decimal n) ≡ Ok n
number_back n small = by (nat_lt 0 n) refl
  where
    by : (t : Bool) → nat_lt 0 n ≡ t → decimal_number (decimal n) ≡ Ok n
    by true e =
        let some : 0 < n = ltb-true 0 n e in
        other_first (decimal n) (decimal_nonempty n small) (first_decimal n some small) ∙ decimal_by_steps IsRead reads_one reads_more n small small
    by false e =
        let none : n ≡ 0 = (let le : n ≤ 0 = ltb-false 0 n e in omega arith) in
        rw (none, decimal_digit 0 (omega arith)) refl

pub below_back : (limit n : ℕ) → n < limit → limit ≤ 2 ^ 64 → bounded_number limit (decimal n) ≡ Ok n
below_back limit n lt le =
    ap (λ (r : Result ℕ Misspelling). r >>= λ m. cond (nat_lt m limit) (Ok m) misspelt) (number_back n (omega arith))
    ∙ ap (λ t. cond t (Ok n) misspelt) (lt-ltb n limit lt)

high_one : (n : ℕ) → n < 10 → IsHigh 48 ((48 + n) ∷ [])
high_one n lt = and_both (nat_le 48 (48 + n)) true (le-leb 48 (48 + n) (omega arith)) refl

pub high_number : (n : ℕ) → n < 2 ^ 64 → IsHigh 48 (decimal n)
high_number n small =
    decimal_by_steps (λ n ds. IsHigh 48 ds) high_one (λ n ds le k. high_append 48 ds ((48 + n % 10) ∷ []) k (high_one (n % 10) (omega arith))) n small
