-- Parts of a text with a byte between each two, and what the text falls into.
use Rattle.std.specs.Prelude.{◌==◌, ℕ, List, [], ◌∷◌, ◌++◌, if◌then◌else◌}
use Rattle.std.specs.List.{flat_map}

-- the parts, with the byte between each two of them
abbrev pub between : ℕ → List (List ℕ) → List ℕ
between b [] = []
between b (w ∷ []) = w
between b (w ∷ v ∷ ws) = w ++ b ∷ between b (v ∷ ws)

-- fields, separated by single spaces
abbrev pub spaced : List (List ℕ) → List ℕ
spaced ws = between 32 ws

-- lines, each ended by a line feed
abbrev pub fed_lines : List (List ℕ) → List ℕ
fed_lines ls = flat_map (λ l. l ++ 10 ∷ []) ls

-- with one more byte in the first part
abbrev pub longer_first : ℕ → List (List ℕ) → List (List ℕ)
longer_first x [] = (x ∷ []) ∷ []
longer_first x (w ∷ ws) = (x ∷ w) ∷ ws

-- what stands between the bytes b of a text: always one part more than there are such bytes
abbrev pub separated_parts : ℕ → List ℕ → List (List ℕ)
separated_parts b [] = [] ∷ []
separated_parts b (x ∷ xs) = if x == b then [] ∷ separated_parts b xs else longer_first x (separated_parts b xs)
