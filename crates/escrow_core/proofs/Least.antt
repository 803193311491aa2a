-- The least of a list, by a walk over it.
use Rattle.std.proofs.Common.{◌≡◌, ℕ, ◌+◌, ◌<◌, min, Bool, true, false, filter, map, List, [], ◌∷◌, ◌++◌, Option, Some, None, refl, sym, ap, ◌∙◌, arith}
use Rattle.std.specs.Prelude.{unwrap_or, IfSome}
use Rattle.std.specs.List.{range_with_len}
use Rattle.swap_digraph.proofs.Ranges.{filter_on, filter_off}
use Rattle.escrow_core.specs.Terms.{least}
use Rattle.escrow_core.specs.ContractRows.{lesser}

-- the least, where there is one
abbrev pub least_number : List ℕ → Option ℕ
least_number [] = None
least_number (n ∷ ns) = Some (least (n ∷ ns))

pub least_number-push : (ns : List ℕ) (m : ℕ) → least_number (ns ++ m ∷ []) ≡ Some (lesser (least_number ns) m)
least_number-push [] m = refl
least_number-push (n ∷ []) m = refl
least_number-push (n ∷ k ∷ ns) m =
    let h : least (k ∷ (ns ++ m ∷ [])) ≡ min (least (k ∷ ns)) m = (let e = least_number-push (k ∷ ns) m in cc e) in
    let a : min n (min (least (k ∷ ns)) m) ≡ min (min n (least (k ∷ ns))) m = omega arith in
    ap (λ (x : ℕ). Some (min n x)) h ∙ ap (λ (x : ℕ). Some x) a

pub unwrap_least : (ns : List ℕ) → unwrap_or (least_number ns) 0 ≡ least ns
unwrap_least [] = refl
unwrap_least (n ∷ ns) = refl

map_push : (g : ℕ → ℕ) (xs : List ℕ) (n : ℕ) → map g (xs ++ n ∷ []) ≡ map g xs ++ g n ∷ []
map_push g [] n = refl
map_push g (x ∷ xs) n = ap (λ (ys : List ℕ). g x ∷ ys) (map_push g xs n)

-- the next number counts
pub least_on : (p : ℕ → Bool) (g : ℕ → ℕ) (n : ℕ) (old : Option ℕ) → p n ≡ true → old ≡ least_number (map g (filter p (range_with_len 0 n)))
    → Some (lesser old (g n)) ≡ least_number (map g (filter p (range_with_len 0 (n + 1))))
least_on p g n old t h =
    ap (λ (o : Option ℕ). Some (lesser o (g n))) h
    ∙ sym (least_number-push (map g (filter p (range_with_len 0 n))) (g n))
    ∙ ap least_number (sym (map_push g (filter p (range_with_len 0 n)) n))
    ∙ ap (λ (xs : List ℕ). least_number (map g xs)) (filter_on p n (filter p (range_with_len 0 n)) (filter p (range_with_len 0 n) ++ n ∷ []) t refl refl)

-- the next number doesn't count
pub least_off : (p : ℕ → Bool) (g : ℕ → ℕ) (n : ℕ) (old : Option ℕ) → p n ≡ false → old ≡ least_number (map g (filter p (range_with_len 0 n)))
    → old ≡ least_number (map g (filter p (range_with_len 0 (n + 1))))
least_off p g n old t h = h ∙ ap (λ (xs : List ℕ). least_number (map g xs)) (filter_off p n (filter p (range_with_len 0 n)) t refl)

pub lesser_below : (o : Option ℕ) (n b : ℕ) → IfSome o (λ m. m < b) → n < b → lesser o n < b
lesser_below None n b h lt = lt
lesser_below (Some m) n b h lt = omega arith
