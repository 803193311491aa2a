-- A text whose control characters are written by their numbers.
use Rattle.std.specs.Prelude.{ℕ, Bool, ◌||◌, ◌&&◌, ◌==◌, ◌++◌, List, [], ◌∷◌, codes, nat_lt, if◌then◌else◌, false}
use Rattle.std.specs.Fmt.{digits}
use Rattle.swap_base.specs.Text.{joined}

-- the number of a control character, in lower case and without padding
unfoldable pub code_text : ℕ → List ℕ
code_text c = joined (codes "\\u{" ∷ digits 16 false c ∷ codes "}" ∷ [])

-- a control character of one byte: U+0000 to U+001F and U+007F
abbrev pub is_control : ℕ → Bool
is_control b = nat_lt b 32 || b == 127

-- a control character of two bytes of UTF-8: U+0080 to U+009F, which are c2 80 to c2 9f
abbrev pub is_wide_control : ℕ → ℕ → Bool
is_wide_control b c = b == 0xc2 && (nat_lt 127 c && nat_lt c 160)

unfoldable pub byte_text : ℕ → List ℕ
byte_text b = if is_control b then code_text b else (b ∷ [])

-- the text with each control character as \u{HEX}, and everything else as it is
unfoldable pub escaped : List ℕ → List ℕ
escaped [] = []
escaped (b ∷ []) = byte_text b
escaped (b ∷ c ∷ bs) = if is_wide_control b c then code_text c ++ escaped bs else byte_text b ++ escaped (c ∷ bs)
