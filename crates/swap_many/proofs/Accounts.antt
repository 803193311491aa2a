-- A list of units, as a function of the account.
use Rattle.std.proofs.Common.{◌≡◌, ◌≢◌, ◌⊎◌, ℕ, suc, zero, ◌+◌, ◌-◌, ◌<◌, List, [], ◌∷◌, length, arith, refl, sym, ap, ◌∙◌, subst, inl, inr, slice_set}
use Rattle.std.proofs.Common.{slice_index_or}
use Rattle.std.proofs.lemmas.List.{get_or-set_same, get_or-set_other, length-set}
use Rattle.swap_rules.proofs.Prefixes.{same_or_not}
use Rattle.swap_many.specs.Accounts.{account_units}
use Rattle.swap_many.specs.Chains.{put, paid}
use Rattle.swap_many.proofs.Projections.{put_same, put_other}

-- what is set in a list is put into what it says
pub set_is_put : {A : Type 0} (d : A) (xs : List A) (i : ℕ) (y : A) → i < length xs
    → (λ j. slice_index_or (slice_set xs i y) j d) ≡ put (λ j. slice_index_or xs j d) i y
set_is_put {A} d xs i y l = λ k j. at j (same_or_not j i) k
  where
    at : (j : ℕ) → (j ≡ i) ⊎ (j ≢ i) → slice_index_or (slice_set xs i y) j d ≡ put (λ j. slice_index_or xs j d) i y j
    at j (inl e) =
        subst (λ j. slice_index_or (slice_set xs i y) j d ≡ put (λ j. slice_index_or xs j d) i y j) (sym e)
        (get_or-set_same xs i y d l ∙ sym (put_same (λ j. slice_index_or xs j d) i y))
    at j (inr n) = get_or-set_other xs i j y d n ∙ sym (put_other (λ j. slice_index_or xs j d) i y j n)

-- below the length any default gives the same
pub any_default : {A : Type 0} (xs : List A) (i : ℕ) (d e : A) → i < length xs → slice_index_or xs i d ≡ slice_index_or xs i e
any_default [] i d e l = absurd (omega arith)
any_default (x ∷ xs) zero d e l = refl
any_default (x ∷ xs) (suc i) d e l = any_default xs i d e (omega arith)

pub paid_set : (xs : List ℕ) (f t u have now : ℕ) → f < length xs → t < length xs → have ≡ slice_index_or xs f have
    → now ≡ slice_index_or (slice_set xs f (have - u)) t now
    → account_units (slice_set (slice_set xs f (have - u)) t (now + u)) ≡ paid (account_units xs) f t u
paid_set xs f t u have now lf lt e q =
    let longer : t < length (slice_set xs f (have - u)) = subst (λ n. t < n) (sym (length-set xs f (have - u))) lt in
    set_is_put 0 (slice_set xs f (have - u)) t (now + u) longer
    ∙ (ap (λ n. put (account_units (slice_set xs f (have - u))) t (n + u)) (q ∙ any_default (slice_set xs f (have - u)) t now 0 longer)
    ∙ (ap (λ g. put g t (g t + u)) (set_is_put 0 xs f (have - u) lf)
    ∙ ap (λ h. put (put (account_units xs) f (h - u)) t (put (account_units xs) f (h - u) t + u)) (e ∙ any_default xs f have 0 lf)))
