-- What a chain of steps that gave a value says of each of its steps.
use Rattle.std.proofs.Common.{◌≡◌, ℕ, zero, suc, ◌<◌, length, get_or, List, [], ◌∷◌, Result, Ok, Err, refl, sym, ap, ◌∙◌, subst, arith}
use Rattle.swap_base.specs.Fault.{◌>>=◌}
use Rattle.offer_moves.specs.Lists.{collected_results}

-- a chain that ends well began well
pub went : {A B R : Type 0} (m : Result A R) (f : A → Result B R) (y : B) → m >>= f ≡ Ok y → (x : A) × (m ≡ Ok x) × (f x ≡ Ok y)
went (Ok x) f y h = (x, refl, h)
went (Err e) f y h = absurd (cc h)

-- an answer for each of a list

each_cons : {A B R : Type 0} (f : A → Result B R) (x : A) (xs : List A) (ys : List B) → collected_results f (x ∷ xs) ≡ Ok ys
    → (y : B) × (rest : List B) × (f x ≡ Ok y) × (collected_results f xs ≡ Ok rest) × (ys ≡ y ∷ rest)
unfolding collected_results
each_cons {B = B} {R = R} f x xs ys h =
    let one = went (f x) (λ y. collected_results f xs >>= λ rest. Ok (y ∷ rest)) ys h in
    let two = went (collected_results f xs) (λ rest. Ok (one.0 ∷ rest)) ys one.2 in
    let same : one.0 ∷ two.0 ≡ ys = cc (two.2) in
    (one.0, two.0, one.1, two.1, sym same)

each_none : {A B R : Type 0} (f : A → Result B R) (ys : List B) → collected_results f [] ≡ Ok ys → ys ≡ []
unfolding collected_results
each_none f ys h = cc h

pub each_length : {A B R : Type 0} (f : A → Result B R) (xs : List A) (ys : List B) → collected_results f xs ≡ Ok ys → length ys ≡ length xs
each_length f [] ys h = ap length (each_none f ys h)
each_length f (x ∷ xs) ys h =
    let r = each_cons f x xs ys h in
    ap length r.4 ∙ ap (λ n. suc n) (each_length f xs r.1 r.3)

pub each_at : {A B R : Type 0} (f : A → Result B R) (xs : List A) (ys : List B) (d : A) (e : B) → collected_results f xs ≡ Ok ys → (i : ℕ) → i < length xs
    → f (get_or xs i d) ≡ Ok (get_or ys i e)
each_at f [] ys d e h i lt = absurd (omega arith)
each_at {B = B} {R = R} f (x ∷ xs) ys d e h zero lt =
    let r = each_cons f x xs ys h in
    r.2 ∙ ap (λ (l : List B). let o : Result B R = Ok (get_or l 0 e) in o) (sym r.4)
each_at {B = B} {R = R} f (x ∷ xs) ys d e h (suc i) lt =
    let r = each_cons f x xs ys h in
    each_at f xs r.1 d e r.3 i (omega arith) ∙ ap (λ (l : List B). let o : Result B R = Ok (get_or l (suc i) e) in o) (sym r.4)

each_all_at : {A : Type 0} (P : A → Type 0) (ys : List A) (y : A) (rest : List A) (i : ℕ) (e : A) → ys ≡ y ∷ rest → P y
    → ((j : ℕ) → j < length rest → P (get_or rest j e)) → i < length ys → P (get_or ys i e)
each_all_at P ys y rest zero e same p more lt = subst (λ l. P (get_or l 0 e)) (sym same) p
each_all_at P ys y rest (suc i) e same p more lt =
    let k : length ys ≡ suc (length rest) = ap length same in
    subst (λ l. P (get_or l (suc i) e)) (sym same) (more i (omega arith))

-- what f gives of each member holds of each answer
pub each_all : {A B R : Type 0} (P : B → Type 0) (f : A → Result B R) → ((x : A) (y : B) → f x ≡ Ok y → P y) → (xs : List A) (ys : List B)
    → collected_results f xs ≡ Ok ys → (i : ℕ) (e : B) → i < length ys → P (get_or ys i e)
each_all P f h [] ys r i e lt = let k : length ys ≡ 0 = ap length (each_none f ys r) in absurd (omega arith)
each_all P f h (x ∷ xs) ys r i e lt = let c = each_cons f x xs ys r in each_all_at P ys c.0 c.1 i e c.4 (h x c.0 c.2)
    (λ j l. each_all P f h xs c.1 c.3 j e l) lt
