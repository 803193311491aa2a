-- A loop that makes one step for each of a list.
use Rattle.std.proofs.Common.{◌≡◌, ℕ, ◌+◌, ◌<◌, ◌≤◌, length, get_or, drop, map, List, [], ◌∷◌, Bool, Result, Ok, Err}
use Rattle.std.proofs.Common.{refl, sym, ap, ◌∙◌, arith, add-one, drop-cons, cond}
use Rattle.std.proofs.lemmas.List.{nil_from_length, length-drop, length-map}
use Rattle.std.specs.Prelude.{position, not, ◌||◌}
use Rattle.swap_base.specs.declared.fault.Fault.{Fault}
use Rattle.swap_base.specs.declared.fault.Fault.TheVariants.{Refused, NoMemory}
use Rattle.swap_base.specs.Fault.{◌>>=◌, steps, Fails}
use Rattle.std.specs.List.{prefix_len, list_any}

pub steps_more : {S A R : Type 0} (f : S → A → Result S R) (s : S) (xs : List A) (i : ℕ) (x : A) → i < length xs → x ≡ get_or xs i x
    → steps f s (drop i xs) ≡ f s x >>= λ t. steps f t (drop (i + 1) xs)
unfolding steps
steps_more f s xs i x lt is =
    let e : drop i xs ≡ x ∷ drop (i + 1) xs = rw (add-one, drop-cons xs i x, ← is) in
    rw e refl

pub steps_end : {S A R : Type 0} (f : S → A → Result S R) (s : S) (xs : List A) (i : ℕ) → length xs ≤ i → steps f s (drop i xs) ≡ Ok s
unfolding steps
steps_end f s xs i le =
    let e : drop i xs ≡ [] = nil_from_length (drop i xs) (omega (arith, length-drop i xs)) in
    rw e refl

-- the step was made
pub steps_on : {S A R : Type 0} (f : S → A → Result S R) (s t : S) (xs : List A) (i : ℕ) (x : A) (total : Result S R) → i < length xs
    → x ≡ get_or xs i x → f s x ≡ Ok t → steps f s (drop i xs) ≡ total → steps f t (drop (i + 1) xs) ≡ total
steps_on f s t xs i x total lt is h so_far =
    let e : steps f s (drop i xs) ≡ steps f t (drop (i + 1) xs) = steps_more f s xs i x lt is ∙ rw h refl in
    sym e ∙ so_far

-- the step was refused, or memory ran out
pub steps_fail : {S A R : Type 0} (e : Fault R) (f : S → A → Result S R) (s : S) (xs : List A) (i : ℕ) (x : A) (total : Result S R) → i < length xs
    → x ≡ get_or xs i x → Fails e (f s x) → steps f s (drop i xs) ≡ total → Fails e total
steps_fail NoMemory f s xs i x total lt is h so_far = tt
steps_fail (Refused reason) f s xs i x total lt is h so_far =
    let e : steps f s (drop i xs) ≡ Err reason = steps_more f s xs i x lt is ∙ rw h refl in
    sym so_far ∙ e

pub steps_done : {S A R : Type 0} (f : S → A → Result S R) (s : S) (xs : List A) (i : ℕ) (total : Result S R) → length xs ≤ i
    → steps f s (drop i xs) ≡ total → total ≡ Ok s
steps_done f s xs i total le so_far = sym so_far ∙ steps_end f s xs i le

prefix_map : {A B : Type 0} (f : A → B) (p : B → Bool) (xs : List A) → prefix_len p (map f xs) ≡ prefix_len (λ x. p (f x)) xs
prefix_map f p [] = refl
prefix_map f p (x ∷ xs) = ap (λ (n : ℕ). cond (p (f x)) (1 + n) 0) (prefix_map f p xs)

pub position_map : {A B : Type 0} (f : A → B) (p : B → Bool) (xs : List A) → position p (map f xs) ≡ position (λ x. p (f x)) xs
position_map f p xs = rw (prefix_map f (λ y. not (p y)) xs, length-map) refl

pub any_map : {A B : Type 0} (f : A → B) (p : B → Bool) (xs : List A) → list_any p (map f xs) ≡ list_any (λ x. p (f x)) xs
any_map f p [] = refl
any_map f p (x ∷ xs) = ap (λ (b : Bool). p (f x) || b) (any_map f p xs)

-- one step further where an element holds no memory, and is read as it stands
pub steps_on_at : {S A R : Type 0} (f : S → A → Result S R) (s t : S) (xs : List A) (i : ℕ) (d : A) (total : Result S R) → i < length xs
    → f s (get_or xs i d) ≡ Ok t → steps f s (drop i xs) ≡ total → steps f t (drop (i + 1) xs) ≡ total
unfolding steps
steps_on_at f s t xs i d total lt h so_far =
    let e : drop i xs ≡ get_or xs i d ∷ drop (i + 1) xs = rw (add-one, drop-cons xs i d) refl in
    let one : steps f s (drop i xs) ≡ steps f t (drop (i + 1) xs) = rw (e, h) refl in
    sym one ∙ so_far

pub steps_fail_at : {S A R : Type 0} (e : Fault R) (f : S → A → Result S R) (s : S) (xs : List A) (i : ℕ) (d : A) (total : Result S R) → i < length xs
    → Fails e (f s (get_or xs i d)) → steps f s (drop i xs) ≡ total → Fails e total
unfolding steps
steps_fail_at NoMemory f s xs i d total lt h so_far = tt
steps_fail_at (Refused reason) f s xs i d total lt h so_far =
    let e : drop i xs ≡ get_or xs i d ∷ drop (i + 1) xs = rw (add-one, drop-cons xs i d) refl in
    let one : steps f s (drop i xs) ≡ Err reason = rw (e, h) refl in
    sym so_far ∙ one
