-- The least of what counts along a list, by a walk over it.
use Rattle.std.proofs.Common.{◌≡◌, ℕ, ◌+◌, ◌<◌, Bool, true, false, cond, filter, map, take, get_or, List, [], ◌∷◌, ◌++◌, length, Option, Some, sym, ap}
use Rattle.std.proofs.Common.{◌∙◌, append-nil}
use Rattle.std.proofs.lemmas.List.{map-append}
use Rattle.std.proofs.lemmas.List.Elements.{filter_more}
use Rattle.escrow_core.specs.ContractRows.{lesser}
use Rattle.escrow_core.proofs.Least.{least_number-push}
use Rattle.swap_rules.specs.Rest.{least_number}

-- the next of them counts
pub counts_on : (p : ℕ → Bool) (f : ℕ → ℕ) (xs : List ℕ) (i : ℕ) (old : Option ℕ) → i < length xs → p (get_or xs i 0) ≡ true
    → old ≡ least_number (map f (filter p (take i xs))) → Some (lesser old (f (get_or xs i 0))) ≡ least_number (map f (filter p (take (i + 1) xs)))
counts_on p f xs i old lt t h =
    let x = get_or xs i 0 in
    let front = filter p (take i xs) in
    ap (λ (o : Option ℕ). Some (lesser o (f x))) h
    ∙ (sym (least_number-push (map f front) (f x))
    ∙ ap least_number (sym (map-append f front (x ∷ [])) ∙ ap (map f) (ap (λ b. front ++ cond b (x ∷ []) []) (sym t) ∙ sym (filter_more p xs i 0 lt))))

-- the next of them doesn't count
pub counts_off : (p : ℕ → Bool) (f : ℕ → ℕ) (xs : List ℕ) (i : ℕ) (old : Option ℕ) → i < length xs → p (get_or xs i 0) ≡ false
    → old ≡ least_number (map f (filter p (take i xs))) → old ≡ least_number (map f (filter p (take (i + 1) xs)))
counts_off p f xs i old lt t h =
    let front = filter p (take i xs) in
    h ∙ ap (λ (ys : List ℕ). least_number (map f ys)) (sym (append-nil front)
    ∙ (ap (λ b. front ++ cond b (get_or xs i 0 ∷ []) []) (sym t) ∙ sym (filter_more p xs i 0 lt)))
