-- Refused calls of a party are noise to it.
use Rattle.std.proofs.Common.{◌≡◌, Bool, true, false, not, List, [], ◌∷◌, filter, cond, refl, sym, ap, ◌∙◌, subst}
use Rattle.swap_rules.specs.Counted.{is_passed, counted}
use Rattle.wallet_promise.specs.WithoutNoise.{is_told, telling, SaysTheSame}
use Rattle.wallet_promise.proofs.Telling.{says_telling}
use Rattle.wallet_promise.specs.Retrying.{RefusedIsNoise}

on_true : {A : Type 0} (p : A → Bool) (x : A) (xs : List A) → p x ≡ true → filter p (x ∷ xs) ≡ x ∷ filter p xs
on_true p x xs e = ap (λ b. cond b (x ∷ filter p xs) (filter p xs)) e

on_false : {A : Type 0} (p : A → Bool) (x : A) (xs : List A) → p x ≡ false → filter p (x ∷ xs) ≡ filter p xs
on_false p x xs e = ap (λ b. cond b (x ∷ filter p xs) (filter p xs)) e

-- two filters in either order
pub filters-swap : {A : Type 0} (p q : A → Bool) (xs : List A) → filter p (filter q xs) ≡ filter q (filter p xs)
filters-swap p q [] = refl
filters-swap p q (x ∷ xs) = go (p x) (q x) refl refl (filters-swap p q xs)
  where
    go : (a b : Bool) → p x ≡ a → q x ≡ b → filter p (filter q xs) ≡ filter q (filter p xs) → filter p (filter q (x ∷ xs)) ≡ filter q (filter p (x ∷ xs))
    go true true e f r =
        ap (filter p) (on_true q x xs f) ∙ (on_true p x (filter q xs) e ∙ (ap (λ l. x ∷ l) r
        ∙ sym (ap (filter q) (on_true p x xs e) ∙ on_true q x (filter p xs) f)))
    go true false e f r = ap (filter p) (on_false q x xs f) ∙ (r ∙ sym (ap (filter q) (on_true p x xs e) ∙ on_false q x (filter p xs) f))
    go false true e f r = ap (filter p) (on_true q x xs f) ∙ (on_false p x (filter q xs) e ∙ (r ∙ sym (ap (filter q) (on_false p x xs e))))
    go false false e f r = ap (filter p) (on_false q x xs f) ∙ (r ∙ sym (ap (filter q) (on_false p x xs e)))

-- a filter twice is the filter once
filter-twice : {A : Type 0} (p : A → Bool) (xs : List A) → filter p (filter p xs) ≡ filter p xs
filter-twice p [] = refl
filter-twice p (x ∷ xs) = go (p x) refl (filter-twice p xs)
  where
    go : (a : Bool) → p x ≡ a → filter p (filter p xs) ≡ filter p xs → filter p (filter p (x ∷ xs)) ≡ filter p (x ∷ xs)
    go true e r = ap (filter p) (on_true p x xs e) ∙ (on_true p x (filter p xs) e ∙ (ap (λ l. x ∷ l) r ∙ sym (on_true p x xs e)))
    go false e r = ap (filter p) (on_false p x xs e) ∙ (r ∙ sym (on_false p x xs e))

pub refused_is_noise : RefusedIsNoise
refused_is_noise v h =
    subst (λ k. SaysTheSame v k (counted v h))
    (filters-swap (is_told v) (λ e. not (is_passed v e)) h ∙ sym (filter-twice (λ e. not (is_passed v e)) (telling v h)))
    (says_telling v (counted v h))
