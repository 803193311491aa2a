-- A loop that writes a text for each of a list.
use Rattle.std.proofs.Common.{◌≡◌, ℕ, ◌+◌, ◌<◌, ◌≤◌, ◌++◌, length, get_or, drop, List, [], ◌∷◌, refl, sym, ap, ◌∙◌, arith, add-one, drop-cons, append_assoc}
use Rattle.std.proofs.lemmas.List.{nil_from_length, length-drop, append-nil}
use Rattle.swap_base.specs.Text.{lines}

pub lines_on : {A : Type 0} (f : ℕ → A → List ℕ) (old new total : List ℕ) (n : ℕ) (xs : List A) (i : ℕ) (x d : A) → i < length xs → x ≡ get_or xs i d
    → new ≡ old ++ f n x → old ++ lines f n (drop i xs) ≡ total → new ++ lines f (n + 1) (drop (i + 1) xs) ≡ total
unfolding lines
lines_on f old new total n xs i x d lt is wrote so_far =
    let e : drop i xs ≡ x ∷ drop (i + 1) xs = rw (add-one, drop-cons xs i d, ← is) in
    let one : old ++ lines f n (drop i xs) ≡ old ++ (f n x ++ lines f (n + 1) (drop (i + 1) xs)) = rw e refl in
    rw wrote (append_assoc old (f n x) (lines f (n + 1) (drop (i + 1) xs)) ∙ sym one ∙ so_far)

pub lines_done : {A : Type 0} (f : ℕ → A → List ℕ) (old total : List ℕ) (n : ℕ) (xs : List A) (i : ℕ) → length xs ≤ i
    → old ++ lines f n (drop i xs) ≡ total → old ≡ total
unfolding lines
lines_done f old total n xs i le so_far =
    let e : drop i xs ≡ [] = nil_from_length (drop i xs) (omega (arith, length-drop i xs)) in
    let one : old ++ lines f n (drop i xs) ≡ old = rw e (append-nil old) in
    sym one ∙ so_far

-- pieces, one after another
pub appended : (a b c x y : List ℕ) → b ≡ a ++ x → c ≡ b ++ y → c ≡ a ++ (x ++ y)
appended a b c x y p q = q ∙ ap (λ (xs : List ℕ). xs ++ y) p ∙ append_assoc a x y
