-- What is done again and again, and when it rests.
use Rattle.std.proofs.Common.{◌≡◌, ℕ, suc, zero, ◌+◌, ◌-◌, ◌≤◌, nat_le, Bool, true, false, List, [], ◌∷◌, fold, refl, sym, ap, ◌∙◌, arith, leb-true, leb-false}
use Rattle.swap_run.specs.Fair.{repeat}

pub repeat_first : {A : Type 0} (n : ℕ) (f : A → A) (x : A) → repeat n f (f x) ≡ f (repeat n f x)
repeat_first zero f x = refl
repeat_first (suc n) f x = ap f (repeat_first n f x)

pub repeat_one : {A : Type 0} (n : ℕ) (f : A → A) (x : A) → repeat (n + 1) f x ≡ f (repeat n f x)
repeat_one n f x = let e : n + 1 ≡ suc n = omega arith in ap (λ k. repeat k f x) e

pub repeat_fixed : {A : Type 0} (n : ℕ) (f : A → A) (x : A) → f x ≡ x → repeat n f x ≡ x
repeat_fixed zero f x e = refl
repeat_fixed (suc n) f x e = ap f (repeat_fixed n f x e) ∙ e

repeat_plus : {A : Type 0} (m k : ℕ) (f : A → A) (x : A) → f (repeat k f x) ≡ repeat k f x → repeat (m + k) f x ≡ repeat k f x
repeat_plus zero k f x e = let z : 0 + k ≡ k = omega arith in ap (λ j. repeat j f x) z
repeat_plus (suc m) k f x e = let z : suc m + k ≡ suc (m + k) = omega arith in ap (λ j. repeat j f x) z ∙ (ap f (repeat_plus m k f x e) ∙ e)

-- what rests after k times is the same after more
pub rest_more : {A : Type 0} (k m : ℕ) (f : A → A) (x : A) → f (repeat k f x) ≡ repeat k f x → k ≤ m → repeat m f x ≡ repeat k f x
rest_more k m f x e l = let z : m ≡ (m - k) + k = omega arith in ap (λ j. repeat j f x) z ∙ repeat_plus (m - k) k f x e

-- what rests after k times and after m is the same
pub rest_same : {A : Type 0} (k m : ℕ) (f : A → A) (x : A) → f (repeat k f x) ≡ repeat k f x → f (repeat m f x) ≡ repeat m f x → repeat k f x ≡ repeat m f x
rest_same k m f x ek em = go (nat_le k m) refl
  where
    go : (y : Bool) → nat_le k m ≡ y → repeat k f x ≡ repeat m f x
    go true e = sym (rest_more k m f x ek (leb-true k m e))
    go false e = rest_more m k f x em (omega (arith, leb-false k m e))

pub fold_fixed : {A B : Type 0} (f : A → B → A) (x : A) (ys : List B) → ((y : B) → f x y ≡ x) → fold f x ys ≡ x
fold_fixed f x [] h = refl
fold_fixed f x (y ∷ ys) h = ap (λ z. fold f z ys) (h y) ∙ fold_fixed f x ys h
