-- A first answer, found by going along the list.
use Rattle.std.proofs.Common.{◌≡◌, ℕ, zero, suc, ◌+◌, ◌<◌, true, false, List, [], ◌∷◌, ◌++◌, length, get_or, take, Option, Some, None, is_some}
use Rattle.std.proofs.Common.{option_map, refl, sym, ap, ◌∙◌, arith}
use Rattle.std.proofs.lemmas.List.{take_more}
use Rattle.swap_base.specs.Lists.{or_else, first_given_answer}
use Rattle.swap_base.proofs.Lists.{first_given_answer-append}

-- no answer so far, and none here
first_none_more : {A B : Type 0} (f : A → Option B) (xs : List A) (i : ℕ) (x : A) → i < length xs → x ≡ get_or xs i x → first_given_answer f (take i xs) ≡ None
    → f x ≡ None → first_given_answer f (take (i + 1) xs) ≡ None
first_none_more f xs i x l e n h =
    ap (first_given_answer f) (take_more xs i x l ∙ ap (λ z. take i xs ++ z ∷ []) (sym e))
    ∙ (first_given_answer-append f (take i xs) (x ∷ []) ∙ (ap (λ o. or_else o (or_else (f x) None)) n ∙ ap (λ o. or_else o None) h))

or_else_some : {B : Type 0} (o r : Option B) (y : B) → o ≡ Some y → or_else o r ≡ Some y
or_else_some o r y e = ap (λ z. or_else z r) e

pub found_head : {B : Type 0} (o r s : Option B) (y : B) → or_else o r ≡ None → (r ≡ None → s ≡ Some y) → or_else o s ≡ Some y
found_head None r s y e h = h e
found_head (Some x) r s y e h = absurd (cc e)

-- no answer so far, and one here
first_found : {A B : Type 0} (f : A → Option B) (xs : List A) (i : ℕ) (x : A) (y : B) → i < length xs → x ≡ get_or xs i x
    → first_given_answer f (take i xs) ≡ None → f x ≡ Some y → first_given_answer f xs ≡ Some y
first_found f [] i x y l e n h = absurd (omega arith)
first_found f (z ∷ xs) zero x y l e n h = or_else_some (f z) (first_given_answer f xs) y (ap f (sym e) ∙ h)
first_found f (z ∷ xs) (suc i) x y l e n h =
    found_head (f z) (first_given_answer f (take i xs)) (first_given_answer f xs) y n (λ n'. first_found f xs i x y (omega arith) e n' h)

mapped_some : {B C : Type 0} (g : B → C) (o : Option B) (r : Option C) → r ≡ option_map g o → is_some r ≡ true → (y : B) × (o ≡ Some y)
mapped_some g None r e h = let k : false ≡ true = sym (ap is_some e) ∙ h in absurd (cc k)
mapped_some g (Some y) r e h = (y, refl)

mapped_none : {B C : Type 0} (g : B → C) (o : Option B) (r : Option C) → r ≡ option_map g o → is_some r ≡ false → o ≡ None
mapped_none g None r e h = refl
mapped_none g (Some y) r e h = let k : true ≡ false = sym (ap is_some e) ∙ h in absurd (cc k)

-- The first answer where what is read is g of each answer.

pub found_mapped : {A B C : Type 0} (g : B → C) (f : A → Option B) (xs : List A) (i : ℕ) (x : A) (r : Option C) → i < length xs → x ≡ get_or xs i x
    → first_given_answer f (take i xs) ≡ None → r ≡ option_map g (f x) → is_some r ≡ true → r ≡ option_map g (first_given_answer f xs)
found_mapped g f xs i x r l e n k s =
    let o = mapped_some g (f x) r k s in
    k ∙ (ap (option_map g) o.1 ∙ ap (option_map g) (sym (first_found f xs i x o.0 l e n o.1)))

pub none_mapped : {A B C : Type 0} (g : B → C) (f : A → Option B) (xs : List A) (i : ℕ) (x : A) (r : Option C) → i < length xs → x ≡ get_or xs i x
    → first_given_answer f (take i xs) ≡ None → r ≡ option_map g (f x) → is_some r ≡ false → first_given_answer f (take (i + 1) xs) ≡ None
none_mapped g f xs i x r l e n k s = first_none_more f xs i x l e n (mapped_none g (f x) r k s)

mapped_same : {B : Type 0} (o : Option B) → o ≡ option_map (λ y. y) o
mapped_same None = refl
mapped_same (Some y) = refl

-- The first answer where the answers themselves are read.

pub found_first : {A B : Type 0} (f : A → Option B) (xs : List A) (i : ℕ) (x : A) (r : Option B) → i < length xs → x ≡ get_or xs i x
    → first_given_answer f (take i xs) ≡ None → r ≡ f x → is_some r ≡ true → r ≡ first_given_answer f xs
found_first f xs i x r l e n k s = found_mapped (λ y. y) f xs i x r l e n (k ∙ mapped_same (f x)) s ∙ sym (mapped_same (first_given_answer f xs))

pub none_first : {A B : Type 0} (f : A → Option B) (xs : List A) (i : ℕ) (x : A) (r : Option B) → i < length xs → x ≡ get_or xs i x
    → first_given_answer f (take i xs) ≡ None → r ≡ f x → is_some r ≡ false → first_given_answer f (take (i + 1) xs) ≡ None
none_first f xs i x r l e n k s = none_mapped (λ y. y) f xs i x r l e n (k ∙ mapped_same (f x)) s
