-- The party of a name is found by it.
use Rattle.std.proofs.Common.{◌≡◌, ◌≢◌, ◌+◌, ◌<◌, ℕ, zero, suc, Bool, true, false, cond, List, [], ◌∷◌, length, get_or, Some, Ok, refl, ap, ◌∙◌, arith, zero-add}
use Rattle.std.specs.Prelude.{slice_index_or}
use Rattle.std.specs.Str.{bytes_eq}
use Rattle.std.specs.List.{position_from}
use Rattle.std.proofs.lemmas.Slice.Eq.{bytes_eq-Decides}
use Rattle.std.proofs.lemmas.Iterator.Adapters.{position_from-zero}
use Rattle.offer_header.specs.Names.{AreNames}
use Rattle.party_rows.specs.Names.{found_party, party_named}

found_from : (t : List ℕ → Bool) (i k : ℕ) (xs : List (List ℕ)) → k < length xs → t (get_or xs k []) ≡ true
    → ((j : ℕ) → j < k → t (get_or xs j []) ≡ false) → position_from t i xs ≡ Some (i + k)
found_from t i k [] lt here before = absurd (omega arith)
found_from t i zero (x ∷ xs) lt here before =
    let same : ◌≡◌ {A = ℕ} i (i + 0) = omega arith in
    ap (λ b. cond b (Some i) (position_from t (i + 1) xs)) here ∙ ap (λ n. Some n) same
found_from t i (suc k) (x ∷ xs) lt here before =
    let same : ◌≡◌ {A = ℕ} (i + 1 + k) (i + suc k) = omega arith in
    ap (λ b. cond b (Some i) (position_from t (i + 1) xs)) (before 0 (omega arith))
    ∙ found_from t (i + 1) k xs (omega arith) here (λ j below. before (suc j) (omega arith)) ∙ ap (λ n. Some n) same

other_name : (a b : List ℕ) → a ≢ b → bytes_eq a b ≡ false
other_name a b apart = by (bytes_eq a b) refl
  where
    by : (t : Bool) → bytes_eq a b ≡ t → bytes_eq a b ≡ false
    by true e = absurd (apart ((bytes_eq-Decides a b).0 e))
    by false e = e

pub finds : (line : ℕ) (names : List (List ℕ)) (p : ℕ) → AreNames names → p < length names → party_named line names (slice_index_or names p []) ≡ Ok p
unfolding party_named
finds line names p k lt =
    let name = slice_index_or names p [] in
    let found : position_from (bytes_eq name) 0 names ≡ Some (0 + p) =
    found_from (bytes_eq name) 0 p names lt ((bytes_eq-Decides name name).1 refl)
    (λ j below. other_name name (get_or names j []) (λ same. let two : p ≡ j = k.apart p j lt (omega arith) same in omega (arith, two, below))) in
    ap (found_party line name) (position_from-zero (bytes_eq name) names ∙ found ∙ ap (λ (n : ℕ). Some n) (zero-add p))
