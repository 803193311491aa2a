-- What is told is short.
use Rattle.std.proofs.Common.{◌≡◌, ℕ, suc, ◌+◌, ◌*◌, ◌≤◌, Bool, true, false, cond, not, ◌&&◌, ◌||◌, List, [], ◌∷◌, ◌++◌, length, count_by, Some}
use Rattle.std.proofs.Common.{refl, sym, ap, ◌∙◌, arith}
use Rattle.std.proofs.lemmas.List.Sums.{sum_by-cons, sum_by_push}
use Rattle.swap_base.proofs.Lists.{grow, at_moment, all_moments_front, bit_le}
use Rattle.swap_digraph.specs.declared.deal.Deal.{Deal}
use Rattle.ledger_core.specs.declared.entry.Entry.{Entry}
use Rattle.ledger_core.specs.History.{accepted, is_sender}
use Rattle.ledger_core.proofs.Bounds.{total_calls}
use Rattle.swap_rules.specs.Rest.{is_ticking}
use Rattle.wallet_promise.specs.WithoutNoise.{is_of_contract, telling, join, as_one, merged, call_count, IsTrueMoment, IsChain}
use Rattle.wallet_promise.specs.BookLaws.{TellingIsShort}
use Rattle.wallet_promise.proofs.Deeds.{progress, goes_on, gains, all_progress, some_call, deed, told_if}

-- Ticks told as one stand between calls.

abbrev starts_with_tick : List Entry → Bool
starts_with_tick [] = false
starts_with_tick (e ∷ h) = is_ticking e.what

-- two for each call, and one more where a tick comes first
abbrev IsSpare : List Entry → List Entry → Type 0
IsSpare m h = length m ≤ 2 * call_count h + cond (starts_with_tick m) 1 0

spare_join : (e : Entry) (m h : List Entry) → IsSpare m h → IsSpare (join e m) (e ∷ h)
spare_join e [] h s =
    let c : call_count (e ∷ h) ≡ cond (not (is_ticking e.what)) 1 0 + call_count h = sum_by-cons (λ x. cond (not (is_ticking x.what)) 1 0) e h in
    go (is_ticking e.what) c
  where
    go : (b : Bool) → call_count (e ∷ h) ≡ cond (not b) 1 0 + call_count h → 1 ≤ 2 * call_count (e ∷ h) + cond b 1 0
    go true c = omega arith
    go false c = omega arith
spare_join e (f ∷ m) h s =
    let c : call_count (e ∷ h) ≡ cond (not (is_ticking e.what)) 1 0 + call_count h = sum_by-cons (λ x. cond (not (is_ticking x.what)) 1 0) e h in
    go (is_ticking e.what) (is_ticking f.what) refl refl c s
  where
    go : (x y : Bool) → is_ticking e.what ≡ x → is_ticking f.what ≡ y → call_count (e ∷ h) ≡ cond (not x) 1 0 + call_count h
        → suc (length m) ≤ 2 * call_count h + cond y 1 0 → IsSpare (cond (x && y) (as_one e f ∷ m) (e ∷ f ∷ m)) (e ∷ h)
    go true true ex ey c s = omega arith
    go true false ex ey c s = let t : ◌≡◌ {A = ℕ} (cond (is_ticking e.what) 1 0) 1 = ap (λ b. cond {A = ℕ} b 1 0) ex in omega arith
    go false true ex ey c s = let t : ◌≡◌ {A = ℕ} (cond (is_ticking e.what) 1 0) 0 = ap (λ b. cond {A = ℕ} b 1 0) ex in omega arith
    go false false ex ey c s = let t : ◌≡◌ {A = ℕ} (cond (is_ticking e.what) 1 0) 0 = ap (λ b. cond {A = ℕ} b 1 0) ex in omega arith

spare : (h : List Entry) → IsSpare (merged h) h
spare [] = omega arith
spare (e ∷ h) = spare_join e (merged h) h (spare h)

pub merged_short : (h : List Entry) → length (merged h) ≤ 2 * call_count h + 1
merged_short h = let s = spare h in let b = bit_le (starts_with_tick (merged h)) true (λ q. refl) in omega arith

-- The calls that are told.

abbrev contract_calls : List Entry → ℕ
contract_calls h = count_by (λ e. is_of_contract (accepted e)) h

told_head : (v : ℕ) (e : Entry) (h : List Entry) (x y z : Bool) → is_ticking e.what ≡ x → is_sender v e.sender ≡ y → is_of_contract (accepted e) ≡ z
    → call_count (telling v h) ≤ total_calls v h + contract_calls h
    → call_count (cond (x || y || z) (e ∷ telling v h) (telling v h)) ≤ (cond y 1 0 + total_calls v h) + (cond z 1 0 + contract_calls h)
told_head v e h true y z ex ey ez s =
    let c : call_count (e ∷ telling v h) ≡ cond (not (is_ticking e.what)) 1 0 + call_count (telling v h) =
    sum_by-cons (λ x. cond (not (is_ticking x.what)) 1 0) e (telling v h) in
    let k : ◌≡◌ {A = ℕ} (cond (not (is_ticking e.what)) 1 0) 0 = ap (λ b. cond {A = ℕ} (not b) 1 0) ex in
    omega arith
told_head v e h false true z ex ey ez s =
    let c : call_count (e ∷ telling v h) ≡ cond (not (is_ticking e.what)) 1 0 + call_count (telling v h) =
    sum_by-cons (λ x. cond (not (is_ticking x.what)) 1 0) e (telling v h) in
    let k : ◌≡◌ {A = ℕ} (cond (not (is_ticking e.what)) 1 0) 1 = ap (λ b. cond {A = ℕ} (not b) 1 0) ex in
    omega arith
told_head v e h false false true ex ey ez s =
    let c : call_count (e ∷ telling v h) ≡ cond (not (is_ticking e.what)) 1 0 + call_count (telling v h) =
    sum_by-cons (λ x. cond (not (is_ticking x.what)) 1 0) e (telling v h) in
    let k : ◌≡◌ {A = ℕ} (cond (not (is_ticking e.what)) 1 0) 1 = ap (λ b. cond {A = ℕ} (not b) 1 0) ex in
    omega arith
told_head v e h false false false ex ey ez s = omega arith

told_calls : (v : ℕ) (h : List Entry) → call_count (telling v h) ≤ total_calls v h + contract_calls h
told_calls v [] = omega arith
told_calls v (e ∷ h) =
    let k =
    told_head v e h (is_ticking e.what) (is_sender v e.sender) (is_of_contract (accepted e)) refl refl refl (told_calls v h) in
    let one : total_calls v (e ∷ h) ≡ cond (is_sender v e.sender) 1 0 + total_calls v h = sum_by-cons (λ x. cond (is_sender v x.sender) 1 0) e h in
    let two : contract_calls (e ∷ h) ≡ cond (is_of_contract (accepted e)) 1 0 + contract_calls h =
    sum_by-cons (λ x. cond (is_of_contract (accepted x)) 1 0) e h in
    omega arith

module _ (d : Deal) (v a : ℕ) where
  few_step : (h : List Entry) (x : Entry) (b : Bool) → is_of_contract (accepted x) ≡ b → IsTrueMoment d v a (record { past = h; now = x })
      → contract_calls h ≤ progress d h → contract_calls (h ++ x ∷ []) ≤ progress d (h ++ x ∷ [])
  few_step h x b o m few =
      let push : contract_calls (h ++ x ∷ []) ≡ contract_calls h + cond (is_of_contract (accepted x)) 1 0 =
      sum_by_push (λ y. cond (is_of_contract (accepted y)) 1 0) h x in
      go b o push
    where
      go : (b : Bool) → is_of_contract (accepted x) ≡ b → contract_calls (h ++ x ∷ []) ≡ contract_calls h + cond (is_of_contract (accepted x)) 1 0
          → contract_calls (h ++ x ∷ []) ≤ progress d (h ++ x ∷ [])
      go true o push =
          let c = some_call (accepted x) o in
          let k : is_of_contract (Some c.0) ≡ true = ap is_of_contract (sym c.1) ∙ o in
          let up = gains d a h x x.sender c.0 c.1 k (deed d v a h x c.0 m (told_if v x c.0 c.1 k) c.1) in
          let one : ◌≡◌ {A = ℕ} (cond (is_of_contract (accepted x)) 1 0) 1 = ap (λ b. cond {A = ℕ} b 1 0) o in
          omega arith
      go false o push =
          let up = goes_on d h x in
          let none : ◌≡◌ {A = ℕ} (cond (is_of_contract (accepted x)) 1 0) 0 = ap (λ b. cond {A = ℕ} b 1 0) o in
          omega arith

  few_accepted : (h : List Entry) → IsChain d v a h → contract_calls h ≤ progress d h
  few_accepted h =
      grow (λ h. IsChain d v a h → contract_calls h ≤ progress d h) h (λ l. omega arith)
      (λ xs x rest l. few_step xs x (is_of_contract (accepted x)) refl (at_moment (IsTrueMoment d v a) (xs ++ x ∷ []) xs x l ([], refl))
      (rest (all_moments_front (IsTrueMoment d v a) xs (x ∷ []) l)))

pub telling_is_short : TellingIsShort
telling_is_short d v a h l =
    let one = merged_short (telling v h) in
    let two = told_calls v h in
    let three = few_accepted d v a h l in
    let four = all_progress d h in
    omega arith
