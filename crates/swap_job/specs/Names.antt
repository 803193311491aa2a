-- Lists of names, with an item for each.
use Rattle.std.specs.Prelude.{ℕ, List, [], ◌∷◌, Option, Some, None, if◌then◌else◌}
use Rattle.std.specs.Str.{bytes_eq}

-- the item of the first such name, if any
abbrev pub named_item : {A : Type 0} → List ℕ → List (List ℕ) → List A → Option A
named_item name [] xs = None
named_item name (n ∷ names) [] = None
named_item name (n ∷ names) (x ∷ xs) = if bytes_eq n name then Some x else named_item name names xs
