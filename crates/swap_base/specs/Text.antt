-- Texts put together from pieces, and a line for each of a list.
use Rattle.std.specs.Prelude.{ℕ, ◌+◌, ◌++◌, List, [], ◌∷◌, decimal}
use Rattle.swap_base.specs.declared.pieces.Piece.{Piece}
use Rattle.swap_base.specs.declared.pieces.Piece.TheVariants.{Text, Bytes, Number}

abbrev pub piece_text : Piece → List ℕ
piece_text (Text s) = s.now
piece_text (Bytes s) = s.now
piece_text (Number n) = decimal n

abbrev pub pieces_text : List Piece → List ℕ
pieces_text [] = []
pieces_text (p ∷ ps) = piece_text p ++ pieces_text ps

-- the texts, one after another
abbrev pub joined : List (List ℕ) → List ℕ
joined [] = []
joined (xs ∷ xss) = xs ++ joined xss

-- a text for each of the list, by its number from n on
unfoldable pub lines : {A : Type 0} → (ℕ → A → List ℕ) → ℕ → List A → List ℕ
lines f n [] = []
lines f n (x ∷ xs) = f n x ++ lines f (n + 1) xs
