-- The two lengths of a control character's number, and the end of an escaped text.
use Rattle.std.proofs.Common.{◌≡◌, ℕ, ◌<◌, ◌≤◌, ◌/◌, ◌%◌, ◌++◌, List, [], ◌∷◌, length, false, refl, sym, ◌∙◌, arith, append-nil}
use Rattle.std.specs.Prelude.{codes}
use Rattle.std.specs.Fmt.{digit_glyph}
use Rattle.std.proofs.lemmas.Fmt.{hex_one_digit, hex_two_digits}
use Rattle.swap_base.specs.Text.{joined}
use Rattle.command_input.specs.Escaped.{code_text, escaped}

pub short_code : (n : ℕ) → n < 16 → code_text n ≡ joined (codes "\\u{" ∷ (digit_glyph false (n % 16) ∷ []) ∷ codes "}" ∷ [])
unfolding code_text
short_code n lt =
    let e : n % 16 ≡ n = omega arith in
    rw (e, hex_one_digit false n lt) refl

pub long_code : (n : ℕ) → 16 ≤ n → n < 256 → code_text n ≡ joined (codes "\\u{" ∷
    (digit_glyph false (n / 16) ∷ digit_glyph false (n % 16) ∷ []) ∷ codes "}" ∷ [])
unfolding code_text
long_code n le lt = rw (hex_two_digits false n le lt) refl

pub escaped_done : (out rest total : List ℕ) → length rest ≡ 0 → out ++ escaped rest ≡ total → out ≡ total
unfolding escaped
escaped_done out [] total e so_far = sym (append-nil out) ∙ so_far
escaped_done out (b ∷ bs) total e so_far = absurd (cc e)
