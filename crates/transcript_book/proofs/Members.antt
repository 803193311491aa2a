-- Members that are read one by one.
use Rattle.std.proofs.Common.{◌≡◌, ℕ, suc, List, [], ◌∷◌, ◌++◌, Result, Ok, Err, refl, sym, ap, ◌∙◌, append_assoc}
use Rattle.swap_base.specs.Fault.{◌>>=◌}
use Rattle.transcript_book.specs.declared.said.Misspelling.{Misspelling}
use Rattle.transcript_book.specs.Reading.{lower_hex_digest, parse_first_field, parse_locks}

-- what was read before, and what is still read
abbrev pub with_front : {A : Type 0} → List A → Result (List A) Misspelling → Result (List A) Misspelling
with_front front read = read >>= λ xs. Ok (front ++ xs)

pub starts : {A : Type 0} (read : Result (List A) Misspelling) → with_front [] read ≡ read
starts (Ok xs) = refl
starts (Err e) = refl

-- ---- a number of digests

abbrev pub with_locks : List (List ℕ) → Result (List (List ℕ) × List (List ℕ)) Misspelling → Result (List (List ℕ) × List (List ℕ)) Misspelling
with_locks front read = read >>= λ r. Ok (front ++ r.0, r.1)

regroup_locks : (front : List (List ℕ)) (x : List ℕ) (read : Result (List (List ℕ) × List (List ℕ)) Misspelling)
    → with_locks front (read >>= λ r. Ok (x ∷ r.0, r.1)) ≡ with_locks (front ++ x ∷ []) read
regroup_locks front x (Ok r) = ap (λ (zs : List (List ℕ)). let q : Result (List (List ℕ) × List (List ℕ)) Misspelling = Ok (zs, r.1) in q)
    (sym (append_assoc front (x ∷ []) r.0))
regroup_locks front x (Err e) = refl

pub locks_start : (read : Result (List (List ℕ) × List (List ℕ)) Misspelling) → with_locks [] read ≡ read
locks_start (Ok r) = refl
locks_start (Err e) = refl

module _ (front : List (List ℕ)) (total : Result (List (List ℕ) × List (List ℕ)) Misspelling) (k n : ℕ) (more : k ≡ suc n) where
  pub locks_on : (old new : List (List ℕ)) (x : List ℕ) → parse_first_field lower_hex_digest old ≡ Ok (x, new) → with_locks front (parse_locks k old) ≡ total
      → with_locks (front ++ x ∷ []) (parse_locks n new) ≡ total
  locks_on old new x one so_far =
      sym (ap (λ m. with_locks front (parse_locks m old)) more
      ∙ ap (λ (r : Result (List ℕ × List (List ℕ)) Misspelling). with_locks front (r >>= λ q. parse_locks n q.1 >>= λ p. Ok (q.0 ∷ p.0, p.1))) one
      ∙ regroup_locks front x (parse_locks n new)) ∙ so_far
