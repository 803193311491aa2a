-- Numbers of at most ten digits.
use Rattle.std.proofs.Common.{◌≡◌, ◌&&◌, ℕ, true, ◌<◌, ◌≤◌, length, List, Result, Ok, Err, ◌^◌, rules, arith, leb-true, nat_le, ap, Option, Some, None}
use Rattle.std.specs.List.{list_all}
use Rattle.std.specs.Char.{is_ascii_digit}
use Rattle.std.specs.Str.Parse.{digits_value, ParsesUnsigned}
use Rattle.std.proofs.lemmas.Str.Parse.{IsNumeralModel, digits_value_short, numerals_by_value, parse_gives}
use Rattle.clap.specs.Matches.{ReadsOne}
use Rattle.program_words.specs.Words.{is_number, is_short_numeral}
use Rattle.program_words.proofs.Names.{both}

own : IsNumeralModel (λ ds. list_all is_ascii_digit ds ≡ true) (digits_value 10)
own = numerals_by_value _ (search rules)

-- a short numeral is read by every unsigned type that holds its number
pub reads : {E : Type 0} (k : ℕ) (text : List ℕ) (r : Result ℕ E) → is_short_numeral text ≡ true → digits_value 10 text < 2 ^ k → ParsesUnsigned k 10 text r
    → r ≡ Ok (digits_value 10 text)
reads k text r h fits gives =
    let a = both (nat_le 1 (length text) && nat_le (length text) 10) _ h in
    let b = both (nat_le 1 (length text)) _ a.0 in
    parse_gives own k text r gives a.1 (leb-true 1 (length text) b.0) fits

pub few : (text : List ℕ) → is_short_numeral text ≡ true → digits_value 10 text < 10 ^ 10
few text h =
    let a = both (nat_le 1 (length text) && nat_le (length text) 10) _ h in
    let b = both (nat_le 1 (length text)) _ a.0 in
    digits_value_short own text 10 a.1 (leb-true (length text) 10 b.1)

pub parsed : {E : Type 0} (text : List ℕ) (r : Result ℕ E) → is_short_numeral text ≡ true → ParsesUnsigned 64 10 text r
    → r ≡ Ok (digits_value 10 text)
parsed text r h gives = reads 64 text r h (omega (arith, few text h)) gives

below : (k : ℕ) (ends : ℕ × ℕ) (text : List ℕ) → is_number ends text ≡ true → ends.1 < 2 ^ k → digits_value 10 text < 2 ^ k
below k ends text h fits =
    let in_range = both (is_short_numeral text) _ h in
    let most : digits_value 10 text ≤ ends.1 = leb-true (digits_value 10 text) ends.1 (both (nat_le ends.0 (digits_value 10 text)) _ in_range.1).1 in
    omega (arith, most, fits)

abbrev value_of : {E : Type 0} → Result ℕ E → Option ℕ
value_of (Ok v) = Some v
value_of (Err e) = None

-- what `get_one` reads of a number's text
pub reads_one : {E : Type 0} (G : List ℕ → Result ℕ E → Type 0) (k : ℕ) (ends : ℕ × ℕ) (text : List ℕ) (r : Option ℕ) → is_number ends text ≡ true
    → ends.1 < 2 ^ k → ((t : List ℕ) (x : Result ℕ E) → G t x → ParsesUnsigned k 10 t x) → ReadsOne G text r → r ≡ Some (digits_value 10 text)
reads_one {E = E} G k ends text (Some v) h fits only one =
    let is : ◌≡◌ {A = Result ℕ E} (Ok v) (Ok (digits_value 10 text)) = reads k text (Ok v) (both _ _ h).0 (below k ends text h fits) (only text (Ok v) one) in
    ap (λ (x : Result ℕ E). value_of x) is
reads_one {E = E} G k ends text None h fits only one =
    let is : ◌≡◌ {A = Result ℕ E} (Err one.0) (Ok (digits_value 10 text)) =
    reads k text (Err one.0) (both _ _ h).0 (below k ends text h fits) (only text (Err one.0) one.1) in
    ap (λ (x : Result ℕ E). value_of x) is
