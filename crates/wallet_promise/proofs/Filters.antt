-- What a scan gives over a list without the elements that it doesn't look at.
use Rattle.std.proofs.Common.{get_or, ◌≡◌, ℕ, suc, ◌+◌, ◌≤◌, max, Bool, true, false, cond, ◌&&◌, ◌||◌, List, [], ◌∷◌, ◌++◌, filter, map, sum_by, count_by}
use Rattle.std.proofs.Common.{Option, None, refl, sym, ap, ap₂, ◌∙◌, inl, inr, arith, append-nil}
use Rattle.std.specs.List.{list_any, list_all, flat_map}
use Rattle.std.proofs.lemmas.List.Sums.{sum_by-cons}
use Rattle.std.proofs.lemmas.List.Elements.{filter-append}
use Rattle.swap_base.specs.Lists.{or_else, first_given_answer, greatest, IsElement, Moment, moments_after_past, IsMoment}
use Rattle.swap_base.proofs.Lists.{first_given_answer-append}

first_head : {A B : Type 0} (p : A → Bool) (f : A → Option B) (x : A) (xs : List A) (b : Bool) → p x ≡ b → (p x ≡ false → f x ≡ None)
    → first_given_answer f (filter p xs) ≡ first_given_answer f xs → first_given_answer f (cond b (x ∷ filter p xs) (filter p xs)) ≡ or_else (f x) (first_given_answer f xs)
first_head p f x xs true e h rest = ap (or_else (f x)) rest
first_head p f x xs false e h rest = rest ∙ ap (λ o. or_else o (first_given_answer f xs)) (sym (h e))

pub first_given_answer-filter : {A B : Type 0} (p : A → Bool) (f : A → Option B) (xs : List A) → ((x : A) → p x ≡ false → f x ≡ None)
    → first_given_answer f (filter p xs) ≡ first_given_answer f xs
first_given_answer-filter p f [] h = refl
first_given_answer-filter p f (x ∷ xs) h = first_head p f x xs (p x) refl (h x) (first_given_answer-filter p f xs h)

any_head : {A : Type 0} (p f : A → Bool) (x : A) (xs : List A) (b : Bool) → p x ≡ b → (p x ≡ false → f x ≡ false)
    → list_any f (filter p xs) ≡ list_any f xs → list_any f (cond b (x ∷ filter p xs) (filter p xs)) ≡ (f x || list_any f xs)
any_head p f x xs true e h rest = ap (λ y. f x || y) rest
any_head p f x xs false e h rest = rest ∙ ap (λ y. y || list_any f xs) (sym (h e))

pub list_any-filter : {A : Type 0} (p f : A → Bool) (xs : List A) → ((x : A) → p x ≡ false → f x ≡ false) → list_any f (filter p xs) ≡ list_any f xs
list_any-filter p f [] h = refl
list_any-filter p f (x ∷ xs) h = any_head p f x xs (p x) refl (h x) (list_any-filter p f xs h)

sum_head : {A : Type 0} (p : A → Bool) (f : A → ℕ) (x : A) (xs : List A) (b : Bool) → p x ≡ b → (p x ≡ false → f x ≡ 0)
    → sum_by f (filter p xs) ≡ sum_by f xs → sum_by f (cond b (x ∷ filter p xs) (filter p xs)) ≡ sum_by f (x ∷ xs)
sum_head p f x xs true e h rest =
    let one : sum_by f (x ∷ filter p xs) ≡ f x + sum_by f (filter p xs) = sum_by-cons f x (filter p xs) in
    let two : sum_by f (x ∷ xs) ≡ f x + sum_by f xs = sum_by-cons f x xs in
    omega (arith, rest)
sum_head p f x xs false e h rest =
    let two : sum_by f (x ∷ xs) ≡ f x + sum_by f xs = sum_by-cons f x xs in
    let none : f x ≡ 0 = h e in
    omega (arith, rest)

pub sum_by-filter : {A : Type 0} (p : A → Bool) (f : A → ℕ) (xs : List A) → ((x : A) → p x ≡ false → f x ≡ 0) → sum_by f (filter p xs) ≡ sum_by f xs
sum_by-filter p f [] h = refl
sum_by-filter p f (x ∷ xs) h = sum_head p f x xs (p x) refl (h x) (sum_by-filter p f xs h)

less_head : {A : Type 0} (p : A → Bool) (f : A → ℕ) (x : A) (xs : List A) (b : Bool) → sum_by f (filter p xs) ≤ sum_by f xs
    → sum_by f (cond b (x ∷ filter p xs) (filter p xs)) ≤ sum_by f (x ∷ xs)
less_head p f x xs true rest =
    let one : sum_by f (x ∷ filter p xs) ≡ f x + sum_by f (filter p xs) = sum_by-cons f x (filter p xs) in
    let two : sum_by f (x ∷ xs) ≡ f x + sum_by f xs = sum_by-cons f x xs in
    omega (arith, rest)
less_head p f x xs false rest =
    let two : sum_by f (x ∷ xs) ≡ f x + sum_by f xs = sum_by-cons f x xs in
    omega (arith, rest)

-- a part has no greater sum
pub sum_by-part : {A : Type 0} (p : A → Bool) (f : A → ℕ) (xs : List A) → sum_by f (filter p xs) ≤ sum_by f xs
sum_by-part p f [] = omega arith
sum_by-part p f (x ∷ xs) = less_head p f x xs (p x) (sum_by-part p f xs)

greatest_head : {A : Type 0} (p : A → Bool) (f : A → ℕ) (x : A) (xs : List A) (b : Bool) → p x ≡ b → (p x ≡ false → f x ≡ 0)
    → greatest f (filter p xs) ≡ greatest f xs → greatest f (cond b (x ∷ filter p xs) (filter p xs)) ≡ greatest f (x ∷ xs)
greatest_head p f x xs true e h rest = let whole : greatest f (filter p xs) ≡ greatest f xs = rest in omega arith
greatest_head p f x xs false e h rest =
    let none : f x ≡ 0 = h e in let whole : greatest f (filter p xs) ≡ greatest f xs = rest in omega arith

pub greatest-filter : {A : Type 0} (p : A → Bool) (f : A → ℕ) (xs : List A) → ((x : A) → p x ≡ false → f x ≡ 0) → greatest f (filter p xs) ≡ greatest f xs
greatest-filter p f [] h = refl
greatest-filter p f (x ∷ xs) h = greatest_head p f x xs (p x) refl (h x) (greatest-filter p f xs h)

-- One more at the end.

pub filter-on : {A : Type 0} (p : A → Bool) (xs : List A) (x : A) → p x ≡ true → filter p (xs ++ x ∷ []) ≡ filter p xs ++ x ∷ []
filter-on p xs x e = filter-append p xs (x ∷ []) ∙ ap (λ b. filter p xs ++ cond b (x ∷ []) []) e

pub filter-off : {A : Type 0} (p : A → Bool) (xs : List A) (x : A) → p x ≡ false → filter p (xs ++ x ∷ []) ≡ filter p xs
filter-off p xs x e = filter-append p xs (x ∷ []) ∙ (ap (λ b. filter p xs ++ cond b (x ∷ []) []) e ∙ append-nil (filter p xs))

-- a moment of the whole is one of the part, where its element stays
pub moment-filter : {A : Type 0} (p : A → Bool) (xs past : List A) (x : A) → IsMoment xs past x → p x ≡ true → IsMoment (filter p xs) (filter p past) x
moment-filter p xs past x m e =
    (filter p m.0, ap (filter p) m.1 ∙ (filter-append p past (x ∷ m.0) ∙ ap (λ b. filter p past ++ cond b (x ∷ filter p m.0) (filter p m.0)) e))

-- a moment of the part is one of the whole
unfilter_head : {A : Type 0} (p : A → Bool) (y : A) (xs past : List A) (x : A) (b : Bool) → p y ≡ b
    → ((past : List A) → IsMoment (filter p xs) past x → (whole : List A) × IsMoment xs whole x × (filter p whole ≡ past))
    → IsMoment (cond b (y ∷ filter p xs) (filter p xs)) past x
    → (whole : List A) × IsMoment (y ∷ xs) whole x × (filter p whole ≡ past)
unfilter_head p y xs [] x true e rest m =
    let same : y ≡ x = cc m.1 in ([], (xs, ap (λ z. z ∷ xs) same), refl)
unfilter_head p y xs (z ∷ past) x true e rest m =
    let same : y ≡ z = cc m.1 in
    let tail : filter p xs ≡ past ++ x ∷ m.0 = cc m.1 in
    let r = rest past (m.0, tail) in
    (y ∷ r.0, ((r.1).0, ap (λ l. y ∷ l) (r.1).1), ap (λ b. cond b (y ∷ filter p r.0) (filter p r.0)) e ∙ ap₂ (λ h t. h ∷ t) same r.2)
unfilter_head p y xs past x false e rest m =
    let r = rest past m in (y ∷ r.0, ((r.1).0, ap (λ l. y ∷ l) (r.1).1), ap (λ b. cond b (y ∷ filter p r.0) (filter p r.0)) e ∙ r.2)

pub moment_unfilter : {A : Type 0} (p : A → Bool) (xs past : List A) (x : A) → IsMoment (filter p xs) past x
    → (whole : List A) × IsMoment xs whole x × (filter p whole ≡ past)
moment_unfilter p [] [] x m = absurd (cc m.1)
moment_unfilter p [] (y ∷ past) x m = absurd (cc m.1)
moment_unfilter p (y ∷ xs) past x m = unfilter_head p y xs past x (p y) refl (λ q n. moment_unfilter p xs q x n) m

-- tests of all moments

all_head : {A : Type 0} (p : A → Bool) (P Q : Moment A → Bool) (before xs : List A) (x : A) (b : Bool) → p x ≡ b
    → (p x ≡ true → P (record { past = filter p before; now = x }) ≡ Q (record { past = before; now = x }))
    → (p x ≡ false → Q (record { past = before; now = x }) ≡ true)
    → list_all P (moments_after_past (filter p (before ++ x ∷ [])) (filter p xs)) ≡ list_all Q (moments_after_past (before ++ x ∷ []) xs)
    → list_all P (moments_after_past (filter p before) (cond b (x ∷ filter p xs) (filter p xs)))
    ≡ (Q (record { past = before; now = x }) && list_all Q (moments_after_past (before ++ x ∷ []) xs))
all_head p P Q before xs x true e same skip rest =
    ap₂ (λ y z. y && z) (same e) (ap (λ l. list_all P (moments_after_past l (filter p xs))) (sym (filter-on p before x e)) ∙ rest)
all_head p P Q before xs x false e same skip rest =
    ap (λ l. list_all P (moments_after_past l (filter p xs))) (sym (filter-off p before x e))
    ∙ (rest ∙ ap (λ y. y && list_all Q (moments_after_past (before ++ x ∷ []) xs)) (sym (skip e)))

pub all_moments-filter : {A : Type 0} (p : A → Bool) (P Q : Moment A → Bool) (before xs : List A)
    → ((past : List A) (x : A) → p x ≡ true → P (record { past = filter p past; now = x }) ≡ Q (record { past = past; now = x }))
    → ((past : List A) (x : A) → p x ≡ false → Q (record { past = past; now = x }) ≡ true)
    → list_all P (moments_after_past (filter p before) (filter p xs)) ≡ list_all Q (moments_after_past before xs)
all_moments-filter p P Q before [] same skip = refl
all_moments-filter p P Q before (x ∷ xs) same skip =
    all_head p P Q before xs x (p x) refl (same before x) (skip before x) (all_moments-filter p P Q (before ++ x ∷ []) xs same skip)

-- lists of lists

pub flat-filter : {A : Type 0} (p : A → Bool) (b : List (List A)) → flat_map (λ h. h) (map (filter p) b) ≡ filter p (flat_map (λ h. h) b)
flat-filter p [] = refl
flat-filter p (h ∷ b) = ap (λ l. filter p h ++ l) (flat-filter p b) ∙ sym (filter-append p h (flat_map (λ h. h) b))

-- Functions that agree on each element.

pub filter-same : {A : Type 0} (p q : A → Bool) (xs : List A) → ((x : A) → IsElement x xs → p x ≡ q x) → filter p xs ≡ filter q xs
filter-same p q [] e = refl
filter-same p q (x ∷ xs) e = ap₂ (λ b l. cond b (x ∷ l) l) (e x (inl refl)) (filter-same p q xs (λ y i. e y (inr i)))

pub map-same : {A B : Type 0} (f g : A → B) (xs : List A) → ((x : A) → IsElement x xs → f x ≡ g x) → map f xs ≡ map g xs
map-same f g [] e = refl
map-same f g (x ∷ xs) e = ap₂ (λ y l. y ∷ l) (e x (inl refl)) (map-same f g xs (λ y i. e y (inr i)))

pub any-same : {A : Type 0} (f g : A → Bool) (xs : List A) → ((x : A) → IsElement x xs → f x ≡ g x) → list_any f xs ≡ list_any g xs
any-same f g [] e = refl
any-same f g (x ∷ xs) e = ap₂ (λ y z. y || z) (e x (inl refl)) (any-same f g xs (λ y i. e y (inr i)))

pub all-same : {A : Type 0} (f g : A → Bool) (xs : List A) → ((x : A) → IsElement x xs → f x ≡ g x) → list_all f xs ≡ list_all g xs
all-same f g [] e = refl
all-same f g (x ∷ xs) e = ap₂ (λ y z. y && z) (e x (inl refl)) (all-same f g xs (λ y i. e y (inr i)))

pub greatest-same : {A : Type 0} (f g : A → ℕ) (xs : List A) → ((x : A) → IsElement x xs → f x ≡ g x) → greatest f xs ≡ greatest g xs
greatest-same f g [] e = refl
greatest-same f g (x ∷ xs) e = ap₂ max (e x (inl refl)) (greatest-same f g xs (λ y i. e y (inr i)))

pub count-same : {A : Type 0} (f g : A → Bool) (xs : List A) → ((x : A) → IsElement x xs → f x ≡ g x) → count_by f xs ≡ count_by g xs
count-same f g [] e = refl
count-same f g (x ∷ xs) e =
    let one : count_by f (x ∷ xs) ≡ cond (f x) 1 0 + count_by f xs = sum_by-cons (λ z. cond (f z) 1 0) x xs in
    let two : count_by g (x ∷ xs) ≡ cond (g x) 1 0 + count_by g xs = sum_by-cons (λ z. cond (g z) 1 0) x xs in
    one ∙ (ap₂ (λ b n. cond {A = ℕ} b 1 0 + n) (e x (inl refl)) (count-same f g xs (λ y i. e y (inr i))) ∙ sym two)

pub flat-same : {A B : Type 0} (f g : A → List B) (xs : List A) → ((x : A) → IsElement x xs → f x ≡ g x) → flat_map f xs ≡ flat_map g xs
flat-same f g [] e = refl
flat-same f g (x ∷ xs) e = ap₂ (λ y z. y ++ z) (e x (inl refl)) (flat-same f g xs (λ y i. e y (inr i)))

pub first-same : {A B : Type 0} (f g : A → Option B) (xs : List A) → ((x : A) → IsElement x xs → f x ≡ g x) → first_given_answer f xs ≡ first_given_answer g xs
first-same f g [] e = refl
first-same f g (x ∷ xs) e = ap₂ or_else (e x (inl refl)) (first-same f g xs (λ y i. e y (inr i)))

pub first-none : {A B : Type 0} (f : A → Option B) (xs : List A) → ((x : A) → IsElement x xs → f x ≡ None) → first_given_answer f xs ≡ None
first-none f [] n = refl
first-none f (x ∷ xs) n = ap₂ or_else (n x (inl refl)) (first-none f xs (λ y i. n y (inr i)))

-- Lists of lists that give the same, place by place.

pub first_each : {A B : Type 0} (f : A → Option B) (k h : List (List A)) → ((a : ℕ) → first_given_answer f (get_or k a []) ≡ first_given_answer f (get_or h a []))
    → first_given_answer f (flat_map (λ l. l) k) ≡ first_given_answer f (flat_map (λ l. l) h)
first_each f [] [] e = refl
first_each f [] (m ∷ h) e = sym (first_given_answer-append f m (flat_map (λ l. l) h) ∙ ap₂ or_else (sym (e 0)) (sym (first_each f [] h (λ a. e (suc a)))))
first_each f (l ∷ k) [] e = first_given_answer-append f l (flat_map (λ l. l) k) ∙ ap₂ or_else (e 0) (first_each f k [] (λ a. e (suc a)))
first_each f (l ∷ k) (m ∷ h) e =
    first_given_answer-append f l (flat_map (λ l. l) k)
    ∙ (ap₂ or_else (e 0) (first_each f k h (λ a. e (suc a))) ∙ sym (first_given_answer-append f m (flat_map (λ l. l) h)))

pub any-append : {A : Type 0} (f : A → Bool) (xs ys : List A) → list_any f (xs ++ ys) ≡ (list_any f xs || list_any f ys)
any-append f [] ys = refl
any-append f (x ∷ xs) ys = ap (λ y. f x || y) (any-append f xs ys) ∙ join (f x) (list_any f xs) (list_any f ys)
  where
    join : (a b c : Bool) → (a || (b || c)) ≡ ((a || b) || c)
    join true b c = refl
    join false b c = refl

pub any_each : {A : Type 0} (f : A → Bool) (k h : List (List A)) → ((a : ℕ) → list_any f (get_or k a []) ≡ list_any f (get_or h a []))
    → list_any f (flat_map (λ l. l) k) ≡ list_any f (flat_map (λ l. l) h)
any_each f [] [] e = refl
any_each f [] (m ∷ h) e = sym (any-append f m (flat_map (λ l. l) h) ∙ ap₂ (λ x y. x || y) (sym (e 0)) (sym (any_each f [] h (λ a. e (suc a)))))
any_each f (l ∷ k) [] e = any-append f l (flat_map (λ l. l) k) ∙ ap₂ (λ x y. x || y) (e 0) (any_each f k [] (λ a. e (suc a)))
any_each f (l ∷ k) (m ∷ h) e =
    any-append f l (flat_map (λ l. l) k)
    ∙ (ap₂ (λ x y. x || y) (e 0) (any_each f k h (λ a. e (suc a))) ∙ sym (any-append f m (flat_map (λ l. l) h)))
