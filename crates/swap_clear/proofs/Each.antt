-- Reading the members of a list one after the other, as a loop does, where they hold no memory and
-- are read as they stand.
use Rattle.std.proofs.Common.{◌≡◌, ℕ, ◌+◌, ◌<◌, length, get_or, drop, List, [], ◌∷◌, ◌++◌, Result, Ok, refl, sym, ◌∙◌}
use Rattle.std.proofs.Common.{add-one, drop-cons}
use Rattle.swap_base.specs.declared.fault.Fault.{Fault}
use Rattle.swap_base.specs.Fault.{Fails}
use Rattle.offer_moves.specs.Lists.{collected_results}
use Rattle.offer_moves.proofs.Lists.{with_front, goes_on, ends}

-- the default is of no account below the length
find_same_key : {A : Type 0} (xs : List A) (i : ℕ) (d e : A) → i < length xs → get_or xs i d ≡ get_or xs i e
find_same_key xs i d e lt =
    let p : drop i xs ≡ get_or xs i d ∷ drop (i + 1) xs = rw (add-one, drop-cons xs i d) refl in
    let q : drop i xs ≡ get_or xs i e ∷ drop (i + 1) xs = rw (add-one, drop-cons xs i e) refl in
    cc (sym p ∙ q)

pub goes_on_at : {A B R : Type 0} (f : A → Result B R) (front : List B) (xs : List A) (i : ℕ) (d : A) (y : B) (total : Result (List B) R) → i < length xs
    → f (get_or xs i d) ≡ Ok y
    → with_front front (collected_results f (drop i xs)) ≡ total → with_front (front ++ y ∷ []) (collected_results f (drop (i + 1) xs)) ≡ total
goes_on_at f front xs i d y total lt h so_far =
    goes_on f front xs i (get_or xs i d) y total lt (find_same_key xs i d (get_or xs i d) lt) h so_far

pub ends_at : {A B R : Type 0} (f : A → Result B R) (e : Fault R) (front : List B) (xs : List A) (i : ℕ) (d : A) (total : Result (List B) R) → i < length xs
    → Fails e (f (get_or xs i d)) → with_front front (collected_results f (drop i xs)) ≡ total → Fails e total
ends_at f e front xs i d total lt h so_far =
    ends f e front xs i (get_or xs i d) total lt (find_same_key xs i d (get_or xs i d) lt) h so_far
