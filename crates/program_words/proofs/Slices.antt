-- The first of a slice's words, and the rest.
use Rattle.std.proofs.Common.{◌≡◌, ℕ, ◌≤◌, length, get_or, map, drop, List, [], ◌∷◌, Option, Some, None, Bool, is_none, refl, sym, ap}
use Rattle.std.proofs.Common.{arith, cond, true, false, suc, ◌+◌}
use Rattle.std.specs.List.{after_first, list_any, position_or_len}
use Rattle.program_words.specs.Words.{verdict_continues, are_options, attached_text, is_equals, choice_step}
use Rattle.program_words.specs.declared.choice.Choice.{Choice}

pub no_words : {A : Type 0} (f : A → List ℕ) (row : List Choice) (waiting : Option Choice) (xs : List A) → length xs ≡ 0
    → are_options row waiting (map f xs) ≡ is_none waiting
no_words f row None [] h = refl
no_words f row (Some own) [] h = refl
no_words f row waiting (x ∷ xs) h = absurd (omega arith)

pub more_words : {A : Type 0} (f : A → List ℕ) (row : List Choice) (waiting : Option Choice) (xs : List A) (x : A) → 1 ≤ length xs → x ≡ get_or xs 0 x
    → are_options row waiting (map f xs) ≡ verdict_continues (choice_step row waiting (f x) (map f (drop 1 xs))) (λ next. are_options row next (map f (drop 1 xs)))
more_words f row waiting [] x some is = absurd (omega arith)
more_words {A = A} f row None (y ∷ xs) x some is =
    ap (λ (z : A). verdict_continues (choice_step row None (f z) (map f xs)) (λ next. are_options row next (map f xs))) (sym is)
more_words {A = A} f row (Some own) (y ∷ xs) x some is =
    ap (λ (z : A). verdict_continues (choice_step row (Some own) (f z) (map f xs)) (λ next. are_options row next (map f xs))) (sym is)

-- a word without `=` has nothing behind it
pub none_behind : (bs : List ℕ) → position_or_len is_equals bs ≡ length bs → None ≡ attached_text bs
none_behind bs h = ap (λ (b : Bool). cond b (Some (after_first is_equals bs)) None) (sym (none bs h))
  where
    none : (bs : List ℕ) → position_or_len is_equals bs ≡ length bs → list_any is_equals bs ≡ false
    none [] h = refl
    none (x ∷ bs) h = go (is_equals x) refl (none bs)
      where
        go : (b : Bool) → is_equals x ≡ b → (position_or_len is_equals bs ≡ length bs → list_any is_equals bs ≡ false) → list_any is_equals (x ∷ bs) ≡ false
        go true e rec =
            let bad : 0 ≡ suc (length bs) = rw e at h in
            absurd (omega arith)
        go false e rec =
            let more : 1 + position_or_len is_equals bs ≡ suc (length bs) = rw e at h in
            let rest : position_or_len is_equals bs ≡ length bs = omega arith in
            rw e (rec rest)
