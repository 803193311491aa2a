-- Steps of a reading, and lists that are read member by member.
use Rattle.std.proofs.Common.{◌≡◌, inl, inr, ◌+◌, ℕ, List, [], ◌∷◌, ◌++◌, length, map, Result, Ok, refl, sym, ap, ap₂}
use Rattle.std.proofs.Common.{◌∙◌, append_assoc, length-append}
use Rattle.std.specs.Prelude.{slice_index_or}
use Rattle.std.proofs.Math.Seq.{get_or-append_seam}
use Rattle.std.specs.List.{range_with_len}
use Rattle.swap_base.specs.Fault.{◌>>=◌}
use Rattle.swap_base.specs.Lists.{IsElement}
use Rattle.serde_json.specs.Data.{Data}
use Rattle.serde_json.specs.View.{items_of}
use Rattle.command_input.specs.declared.reason.Reason.{Reason}
use Rattle.offer_moves.specs.Lists.{collected_results}
use Rattle.offer_moves.specs.Fields.{each}

-- the step was read
pub step : {A B : Type 0} (r : Result A Reason) (x : A) (f : A → Result B Reason) → r ≡ Ok x → (r >>= f) ≡ f x
step r x f e = ap (λ (q : Result _ Reason). q >>= f) e

-- each of the list is read
pub each_back : {A B C : Type 0} (f : A → Result B Reason) (g : C → A) (h : C → B) (xs : List C) → ((x : C) → IsElement x xs → f (g x) ≡ Ok (h x))
    → collected_results f (map g xs) ≡ Ok (map h xs)
unfolding collected_results
each_back f g h [] one = refl
each_back f g h (x ∷ xs) one =
    step (f (g x)) (h x) (λ y. collected_results f (map g xs) >>= λ ys. Ok (y ∷ ys)) (one x (inl refl))
    ∙ step (collected_results f (map g xs)) (map h xs) (λ ys. Ok (h x ∷ ys)) (each_back f g h xs (λ y i. one y (inr i)))

-- each of the items of a list of JSON
pub items_back : {B C : Type 0} (f : Data → Result B Reason) (g : C → Data) (h : C → B) (xs : List C) → ((x : C) → IsElement x xs → f (g x) ≡ Ok (h x))
    → each f (items_of (map g xs)) ≡ Ok (map h xs)
unfolding each collected_results
items_back f g h [] one = refl
items_back f g h (x ∷ xs) one =
    step (f (g x)) (h x) (λ y. each f (items_of (map g xs)) >>= λ ys. Ok (y ∷ ys)) (one x (inl refl))
    ∙ step (each f (items_of (map g xs))) (map h xs) (λ ys. Ok (h x ∷ ys)) (items_back f g h xs (λ y i. one y (inr i)))

-- a list by its places
pub by_places : {A : Type 0} (d : A) (before xs : List A) → map (λ i. slice_index_or (before ++ xs) i d) (range_with_len (length before) (length xs)) ≡ xs
by_places d before [] = refl
by_places {A = A} d before (x ∷ xs) =
    let here : slice_index_or (before ++ x ∷ xs) (length before) d ≡ x = get_or-append_seam before x xs d in
    let next : length (before ++ x ∷ []) ≡ length before + 1 = length-append before (x ∷ []) in
    ap₂ (λ (y : A) (ys : List A). y ∷ ys) here
    (ap₂ (λ (l : List A) (n : ℕ). map (λ i. slice_index_or l i d) (range_with_len n (length xs))) (sym (append_assoc before (x ∷ []) xs)) (sym next)
    ∙ by_places d (before ++ x ∷ []) xs)
