-- The first line, and the lines after it.
use Rattle.std.proofs.Common.{◌≡◌, ℕ, ◌+◌, ◌<◌, ◌≤◌, ◌++◌, suc, length, List, [], ◌∷◌, Bool, true, false, eqb, cond, refl, sym, ap}
use Rattle.std.proofs.Common.{◌∙◌, arith, append_assoc}
use Rattle.std.proofs.lemmas.List.{append-nil}
use Rattle.command_input.specs.Lines.{bytes_before_feed, bytes_after_feed, with_first, collect_lines, is_blank, filled_lines}

by_test : (b : ℕ) (t : Bool) (bs : List ℕ) (rest : List (List ℕ)) (line left : List ℕ) → rest ≡ line ∷ collect_lines left
    → cond t ([] ∷ collect_lines bs) (with_first b rest) ≡ cond t [] (b ∷ line) ∷ collect_lines (cond t bs left)
by_test b true bs rest line left e = refl
by_test b false bs rest line left e = rw e refl

-- a file that is not empty is its first line and those after it
pub first_of : (b : ℕ) (bs : List ℕ) → collect_lines (b ∷ bs) ≡ bytes_before_feed (b ∷ bs) ∷ collect_lines (bytes_after_feed (b ∷ bs))
unfolding collect_lines
first_of b [] = elim (eqb b 10) as (λ t. cond t ([] ∷ []) ((b ∷ []) ∷ []) ≡ cond t [] (b ∷ []) ∷ collect_lines (cond t [] [])) [ true ↦ refl | false ↦ refl ]
first_of b (c ∷ bs) = by_test b (eqb b 10) (c ∷ bs) (collect_lines (c ∷ bs)) (bytes_before_feed (c ∷ bs)) (bytes_after_feed (c ∷ bs)) (first_of c bs)

pub first : (bs : List ℕ) → 0 < length bs → collect_lines bs ≡ bytes_before_feed bs ∷ collect_lines (bytes_after_feed bs)
first [] h = absurd (omega arith)
first (b ∷ bs) h = first_of b bs

after_short : (bs : List ℕ) → length (bytes_after_feed bs) ≤ length bs
after_short [] = omega arith
after_short (b ∷ bs) = elim (eqb b 10) as (λ t. length (cond t bs (bytes_after_feed bs)) ≤ suc (length bs))
    [ true ↦ omega arith | false ↦ omega (arith, after_short bs) ]

pub shorter : (bs : List ℕ) → 0 < length bs → length (bytes_after_feed bs) < length bs
shorter [] h = absurd (omega arith)
shorter (b ∷ bs) h = elim (eqb b 10) as (λ t. length (cond t bs (bytes_after_feed bs)) < suc (length bs)) [ true ↦ omega arith | false ↦ omega (arith, after_short bs) ]

pub one_more : (n : ℕ) (l : List ℕ) (ls : List (List ℕ)) → filled_lines n (l ∷ ls) ≡ cond (is_blank l) (filled_lines (n + 1) ls)
    ((n, l) ∷ filled_lines (n + 1) ls)
unfolding filled_lines
one_more n l ls = refl

pub none_left : (n : ℕ) (bs : List ℕ) → length bs ≡ 0 → filled_lines n (collect_lines bs) ≡ []
unfolding filled_lines collect_lines
none_left n [] h = refl
none_left n (b ∷ bs) h = absurd (omega arith)

pub on_filled : (bs : List ℕ) (out new total : List (ℕ × List ℕ)) (n : ℕ) → 0 < length bs → is_blank (bytes_before_feed bs) ≡ false → new ≡ out ++ (n, bytes_before_feed bs) ∷ []
    → out ++ filled_lines n (collect_lines bs) ≡ total → new ++ filled_lines (n + 1) (collect_lines (bytes_after_feed bs)) ≡ total
on_filled bs out new total n some blank is so_far =
    let e : out ++ filled_lines n (collect_lines bs) ≡ out ++ ((n, bytes_before_feed bs) ∷ filled_lines (n + 1) (collect_lines (bytes_after_feed bs))) =
    ap (λ (ls : List (List ℕ)). out ++ filled_lines n ls) (first bs some)
    ∙ ap (λ (w : List (ℕ × List ℕ)). out ++ w) (one_more n (bytes_before_feed bs) (collect_lines (bytes_after_feed bs)) ∙ rw blank refl) in
    rw is (append_assoc out ((n, bytes_before_feed bs) ∷ []) (filled_lines (n + 1) (collect_lines (bytes_after_feed bs))) ∙ sym e ∙ so_far)

pub ended : (bs : List ℕ) (out total : List (ℕ × List ℕ)) (n : ℕ) → length bs ≡ 0 → out ++ filled_lines n (collect_lines bs) ≡ total → out ≡ total
ended bs out total n none so_far = sym (append-nil out) ∙ ap (λ (w : List (ℕ × List ℕ)). out ++ w) (sym (none_left n bs none)) ∙ so_far
