-- Reading the members of a list one after the other, as a loop does, and what a list that was read
-- says of each.
use Rattle.std.proofs.Common.{◌≡◌, ℕ, ◌+◌, ◌<◌, ◌≤◌, length, get_or, drop, List, [], ◌∷◌, ◌++◌, Result, Ok, Err, refl, sym, ap, ◌∙◌, append_assoc, arith}
use Rattle.std.proofs.Common.{add-one, drop-cons}
use Rattle.std.proofs.lemmas.List.{append-nil, nil_from_length, length-drop}
use Rattle.swap_base.specs.declared.fault.Fault.{Fault}
use Rattle.swap_base.specs.declared.fault.Fault.TheVariants.{Refused, NoMemory}
use Rattle.swap_base.specs.Fault.{◌>>=◌, Fails}
use Rattle.serde_json.specs.Data.{Data}
use Rattle.serde_json.specs.View.{view, items_view}
use Rattle.serde_json.specs.declared.value.Value.{Value}
use Rattle.command_input.specs.declared.reason.Reason.{Reason}
use Rattle.offer_moves.specs.Lists.{collected_results}
use Rattle.offer_moves.specs.Fields.{each}

-- what was read before, and what is still read
abbrev pub with_front : {B R : Type 0} → List B → Result (List B) R → Result (List B) R
with_front front read = read >>= λ ys. Ok (front ++ ys)

regroup : {B R : Type 0} (front : List B) (y : B) (read : Result (List B) R)
    → with_front front (read >>= λ ys. Ok (y ∷ ys)) ≡ with_front (front ++ y ∷ []) read
regroup {B = B} {R = R} front y (Ok ys) = ap (λ (zs : List B). let r : Result (List B) R = Ok zs in r) (simp append_assoc)
regroup front y (Err e) = refl

collected_results-cons : {A B R : Type 0} (f : A → Result B R) (x : A) (xs : List A) → collected_results f (x ∷ xs) ≡ f x >>= (λ y. collected_results f xs >>= λ ys. Ok (y ∷ ys))
unfolding collected_results
collected_results-cons f x xs = refl

collected_results-nil : {A B R : Type 0} (f : A → Result B R) → collected_results f [] ≡ Ok []
unfolding collected_results
collected_results-nil f = refl

pub starts : {A B R : Type 0} (f : A → Result B R) (xs : List A) → with_front [] (collected_results f xs) ≡ collected_results f xs
starts f xs = unit_left (collected_results f xs)
  where
    unit_left : {B R : Type 0} (read : Result (List B) R) → with_front [] read ≡ read
    unit_left (Ok ys) = refl
    unit_left (Err e) = refl

pub goes_on : {A B R : Type 0} (f : A → Result B R) (front : List B) (xs : List A) (i : ℕ) (x : A) (y : B) (total : Result (List B) R) → i < length xs
    → x ≡ get_or xs i x → f x ≡ Ok y
    → with_front front (collected_results f (drop i xs)) ≡ total → with_front (front ++ y ∷ []) (collected_results f (drop (i + 1) xs)) ≡ total
goes_on f front xs i x y total lt is h so_far =
    let e : drop i xs ≡ x ∷ drop (i + 1) xs = rw (add-one, drop-cons xs i x, ← is) in
    let one : with_front front (collected_results f (drop i xs)) ≡ with_front (front ++ y ∷ []) (collected_results f (drop (i + 1) xs)) =
    rw (e, collected_results-cons f x (drop (i + 1) xs), h) (regroup front y (collected_results f (drop (i + 1) xs))) in
    sym one ∙ so_far

pub ends : {A B R : Type 0} (f : A → Result B R) (e : Fault R) (front : List B) (xs : List A) (i : ℕ) (x : A) (total : Result (List B) R) → i < length xs
    → x ≡ get_or xs i x → Fails e (f x)
    → with_front front (collected_results f (drop i xs)) ≡ total → Fails e total
ends f NoMemory front xs i x total lt is h so_far = tt
ends f (Refused reason) front xs i x total lt is h so_far =
    let e : drop i xs ≡ x ∷ drop (i + 1) xs = rw (add-one, drop-cons xs i x, ← is) in
    let one : with_front front (collected_results f (drop i xs)) ≡ Err reason = rw (e, collected_results-cons f x (drop (i + 1) xs), h) refl in
    sym so_far ∙ one

pub is_done : {A B R : Type 0} (f : A → Result B R) (front : List B) (xs : List A) (i : ℕ) (total : Result (List B) R) → length xs ≤ i
    → with_front front (collected_results f (drop i xs)) ≡ total → total ≡ Ok front
is_done {B = B} {R = R} f front xs i total le so_far =
    let e : drop i xs ≡ [] = nil_from_length (drop i xs) (omega (arith, length-drop i xs)) in
    let one : with_front front (collected_results f (drop i xs)) ≡ Ok front = rw (e, collected_results-nil f)
    (ap (λ (ys : List B). let r : Result (List B) R = Ok ys in r) (append-nil front)) in
    sym so_far ∙ one

-- The values of a list of JSON.

pub of_values : {A : Type 0} (f : Data → Result A Reason) (vs : List Value) → each f (items_view vs) ≡ collected_results (λ v. f (view v)) vs
unfolding each collected_results
of_values f [] = refl
of_values {A = A} f (v ∷ vs) = ap (λ (read : Result (List A) Reason). f (view v) >>= λ x. read >>= λ xs. Ok (x ∷ xs)) (of_values f vs)
