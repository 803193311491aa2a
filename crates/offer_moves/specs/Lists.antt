-- The members of a list, each read in turn.
use Rattle.std.specs.Prelude.{List, [], ◌∷◌, Result, Ok}
use Rattle.swap_base.specs.Fault.{◌>>=◌}

-- what each of the list is read as, up to the first that is refused
unfoldable pub collected_results : {A B R : Type 0} → (A → Result B R) → List A → Result (List B) R
collected_results f [] = Ok []
collected_results f (x ∷ xs) = do
  y ← f x
  ys ← collected_results f xs
  Ok (y ∷ ys)
