-- Lists made for each number below n.
use Rattle.std.proofs.Common.{◌≡◌, ℕ, zero, suc, ◌+◌, ◌<◌, Bool, true, false, cond, List, [], ◌∷◌, ◌++◌, length, get_or, filter, map, refl, sym, ap}
use Rattle.std.proofs.Common.{◌∙◌, arith, zero-add, append-nil}
use Rattle.std.specs.List.{range_with_len}
use Rattle.std.proofs.lemmas.List.FromFn.{get_or-map-range_with_len, length-map-range_with_len}

pub place_below : {X : Type 0} (f : ℕ → X) (n p : ℕ) (xs : List X) → xs ≡ map f (range_with_len 0 n) → p < n → p < length xs
place_below f n p xs e lt = rw (e, length-map-range_with_len f 0 n) lt

pub place_is : {X : Type 0} (f : ℕ → X) (n p : ℕ) (xs : List X) (x : X) → xs ≡ map f (range_with_len 0 n) → p < n → x ≡ get_or xs p x → x ≡ f p
place_is {X = X} f n p xs x e lt is = is ∙ ap (λ (ys : List X). get_or ys p x) e ∙ get_or-map-range_with_len f 0 n p p x lt (zero-add p)

range_more : (a n : ℕ) → range_with_len a (suc n) ≡ range_with_len a n ++ (a + n) ∷ []
range_more a zero = let e : a ≡ a + 0 = omega arith in ap (λ (k : ℕ). k ∷ []) e
range_more a (suc n) =
    let e : (a + 1) + n ≡ a + suc n = omega arith in
    ap (λ (ks : List ℕ). a ∷ ks) (range_more (a + 1) n ∙ ap (λ (k : ℕ). range_with_len (a + 1) n ++ k ∷ []) e)

filter_one : (p : ℕ → Bool) (n : ℕ) (xs : List ℕ) → filter p (xs ++ n ∷ []) ≡ filter p xs ++ cond (p n) (n ∷ []) []
filter_one p n [] = refl
filter_one p n (x ∷ xs) = by_test (p x) (filter p xs) (filter p (xs ++ n ∷ [])) (filter_one p n xs)
  where
    by_test : (b : Bool) (ys zs : List ℕ) → zs ≡ ys ++ cond (p n) (n ∷ []) [] → cond b (x ∷ zs) zs ≡ cond b (x ∷ ys) ys ++ cond (p n) (n ∷ []) []
    by_test true ys zs e = ap (λ (ws : List ℕ). x ∷ ws) e
    by_test false ys zs e = e

filter_more : (p : ℕ → Bool) (n : ℕ) → filter p (range_with_len 0 (n + 1)) ≡ filter p (range_with_len 0 n) ++ cond (p n) (n ∷ []) []
filter_more p n =
    let e : n + 1 ≡ suc n = omega arith in
    let z : 0 + n ≡ n = zero-add n in
    ap (λ (k : ℕ). filter p (range_with_len 0 k)) e ∙ ap (filter p) (range_more 0 n) ∙ ap (λ (k : ℕ). filter p (range_with_len 0 n ++ k ∷ [])) z
    ∙ filter_one p n (range_with_len 0 n)

pub filter_on : (p : ℕ → Bool) (n : ℕ) (old new : List ℕ) → p n ≡ true → new ≡ old ++ n ∷ [] → old ≡ filter p (range_with_len 0 n)
    → new ≡ filter p (range_with_len 0 (n + 1))
filter_on p n old new t e so_far = e ∙ ap (λ (xs : List ℕ). xs ++ n ∷ []) so_far ∙ sym (filter_more p n ∙ rw t refl)

pub filter_off : (p : ℕ → Bool) (n : ℕ) (old : List ℕ) → p n ≡ false → old ≡ filter p (range_with_len 0 n) → old ≡ filter p (range_with_len 0 (n + 1))
filter_off p n old t so_far = so_far ∙ sym (filter_more p n ∙ rw t (append-nil (filter p (range_with_len 0 n))))

pub map_more : {X : Type 0} (f : ℕ → X) (n : ℕ) (old new : List X) → new ≡ old ++ f n ∷ [] → old ≡ map f (range_with_len 0 n)
    → new ≡ map f (range_with_len 0 (n + 1))
map_more {X = X} f n old new e so_far =
    let k : n + 1 ≡ suc n = omega arith in
    let z : 0 + n ≡ n = zero-add n in
    e ∙ ap (λ (xs : List X). xs ++ f n ∷ []) so_far
    ∙ sym (ap (λ (j : ℕ). map f (range_with_len 0 j)) k ∙ ap (map f) (range_more 0 n) ∙ ap (λ (j : ℕ). map f (range_with_len 0 n ++ j ∷ [])) z
    ∙ map_one f n (range_with_len 0 n))
  where
    map_one : {Y : Type 0} (g : ℕ → Y) (m : ℕ) (xs : List ℕ) → map g (xs ++ m ∷ []) ≡ map g xs ++ g m ∷ []
    map_one g m [] = refl
    map_one {Y = Y} g m (x ∷ xs) = ap (λ (ys : List Y). g x ∷ ys) (map_one g m xs)
