-- Words at known places, and elements by place.
use Rattle.std.proofs.Common.{◌≡◌, ℕ, ◌+◌, ◌<◌, ◌==◌, ◌||◌, Bool, List, [], ◌∷◌, map, get_or, refl, inl}
use Rattle.std.proofs.Common.{inr, arith}
use Rattle.std.proofs.Math.Nat.{mod-eq_of_lt}
use Rattle.swap_base.specs.Lists.{IsElement}
use Rattle.swap_digraph.specs.declared.arc_ends.ArcEnds.{ArcEnds}
use Rattle.swap_gen.specs.Word.{next}

-- what stands at no place
abbrev pub no_arc : ArcEnds
no_arc = record { from = 0; to = 0 }

-- the places of a job's words are far below the end of the stream
pub next_is : (k : ℕ) → k < 1000000 → next k ≡ k + 1
next_is k lt = mod-eq_of_lt (omega arith)

pub from_map : {A B : Type 0} (f : A → B) (xs : List A) (y : B) → IsElement y (map f xs) → (x : A) × IsElement x xs × (y ≡ f x)
from_map f [] y i = absurd i
from_map f (x ∷ xs) y (inl e) = (x, inl refl, e)
from_map f (x ∷ xs) y (inr i) = let r = from_map f xs y i in (r.0, inr r.1, r.2)

-- whether an arc of a list touches party p
abbrev pub touches_at : ℕ → List ArcEnds → ℕ → Bool
touches_at p xs a = (p == (get_or xs a no_arc).from) || (p == (get_or xs a no_arc).to)
