-- The least closed lock, by a walk over the list of opened locks.
use Rattle.std.proofs.Common.{◌≡◌, ℕ, suc, ◌+◌, Bool, true, false, not, List, [], ◌∷◌, length, get_or, Option, Some, None, is_none, refl, sym, ap, ◌∙◌}
use Rattle.std.proofs.Common.{subst, arith}
use Rattle.std.specs.List.{list_all, range_with_len, position_from}
use Rattle.escrow_core.specs.Table.{closed_lock}

-- what a walk over the locks shows: no lock is closed, or i is the least
abbrev pub ClosedIs : (ℕ → Bool) → List ℕ → Option ℕ → Type 0
ClosedIs f is None = list_all f is ≡ true
ClosedIs f is (Some i) = (list_all f is ≡ false) × (closed_lock f is ≡ i)

past_open : (f : ℕ → Bool) (k : ℕ) (is : List ℕ) (o : Option ℕ) (b : Bool) → f k ≡ b → b ≡ true → ClosedIs f is o → ClosedIs f (k ∷ is) o
past_open f k is None b e t h = rw (e, t) h
past_open f k is (Some i) b e t h = (rw (e, t) h.0, rw (e, t) h.1)

pub closed_from : (f : ℕ → Bool) (k : ℕ) (bs : List Bool) → ((i : ℕ) → f (k + i) ≡ get_or bs i false)
    → ClosedIs f (range_with_len k (length bs)) (position_from not k bs)
closed_from f k [] h = refl
closed_from f k (true ∷ bs) h =
    let e : k ≡ k + 0 = omega arith in
    past_open f k (range_with_len (k + 1) (length bs)) (position_from not (k + 1) bs) true (ap f e ∙ h 0) refl
    (closed_from f (k + 1) bs (λ i. let n : (k + 1) + i ≡ k + suc i = omega arith in ap f n ∙ h (suc i)))
closed_from f k (false ∷ bs) h =
    let e : k ≡ k + 0 = omega arith in
    let c : f k ≡ false = ap f e ∙ h 0 in
    (rw c refl, rw c refl)

pub closed_is : (bs : List Bool) → ClosedIs (λ i. get_or bs i false) (range_with_len 0 (length bs)) (position_from not 0 bs)
closed_is bs = closed_from (λ i. get_or bs i false) 0 bs (λ i. let n : 0 + i ≡ i = omega arith in ap (λ (j : ℕ). get_or bs j false) n)

-- the least closed lock is i
pub closed_some : (bs : List Bool) (i : ℕ) → Some i ≡ position_from not 0 bs
    → (list_all (λ k. get_or bs k false) (range_with_len 0 (length bs)) ≡ false)
    × (closed_lock (λ k. get_or bs k false) (range_with_len 0 (length bs)) ≡ i)
closed_some bs i e = subst (ClosedIs (λ k. get_or bs k false) (range_with_len 0 (length bs))) (sym e) (closed_is bs)

-- every lock is open
pub closed_none : (bs : List Bool) → None ≡ position_from not 0 bs → list_all (λ k. get_or bs k false) (range_with_len 0 (length bs)) ≡ true
closed_none bs e = subst (ClosedIs (λ k. get_or bs k false) (range_with_len 0 (length bs))) (sym e) (closed_is bs)

-- every lock is open where none is the least closed one
pub open_test : (bs : List Bool) → list_all (λ k. get_or bs k false) (range_with_len 0 (length bs)) ≡ is_none (position_from not 0 bs)
open_test bs = by_walk (position_from not 0 bs) (closed_is bs)
  where
    by_walk : (o : Option ℕ) → ClosedIs (λ k. get_or bs k false) (range_with_len 0 (length bs)) o
        → list_all (λ k. get_or bs k false) (range_with_len 0 (length bs)) ≡ is_none o
    by_walk None h = h
    by_walk (Some i) h = h.0
