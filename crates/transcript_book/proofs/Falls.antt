-- A text falls into its first part and those of the rest.
use Rattle.std.proofs.Common.{◌≡◌, ◌==◌, ◌+◌, ◌-◌, ◌<◌, ℕ, zero, suc, Bool, true, false, cond, List, [], ◌∷◌, length, take, drop, slice_index}
use Rattle.std.proofs.Common.{refl, sym, ap, ◌∙◌, arith}
use Rattle.std.proofs.lemmas.List.{drop-drop, length-drop, take_all}
use Rattle.memchr.specs.Find.{NoneBefore, Nowhere, Passes, is_byte}
use Rattle.transcript_book.specs.Between.{separated_parts, longer_first}

not_true : (t : Bool) → ¬ (t ≡ true) → t ≡ false
not_true true h = absurd (h refl)
not_true false h = refl

-- the byte stands at i, and not before
found : (b : ℕ) (xs : List ℕ) (i : ℕ) → i < length xs → (slice_index xs i == b) ≡ true → ((k : ℕ) → k < i → (slice_index xs k == b) ≡ false)
    → separated_parts b xs ≡ take i xs ∷ separated_parts b (drop (suc i) xs)
found b [] i lt here before = absurd (omega arith)
found b (x ∷ xs) zero lt here before = ap (λ t. cond t ([] ∷ separated_parts b xs) (longer_first x (separated_parts b xs))) here
found b (x ∷ xs) (suc i) lt here before =
    ap (λ t. cond t ([] ∷ separated_parts b xs) (longer_first x (separated_parts b xs))) (before 0 (omega arith))
    ∙ ap (longer_first x) (found b xs i (omega arith) here (λ k below. before (suc k) (omega arith)))

none : (b : ℕ) (xs : List ℕ) → ((k : ℕ) → k < length xs → (slice_index xs k == b) ≡ false) → separated_parts b xs ≡ xs ∷ []
none b [] nowhere = refl
none b (x ∷ xs) nowhere =
    ap (λ t. cond t ([] ∷ separated_parts b xs) (longer_first x (separated_parts b xs))) (nowhere 0 (omega arith))
    ∙ ap (longer_first x) (none b xs (λ k below. nowhere (suc k) (omega arith)))

pub parts_found : (b : ℕ) (xs : List ℕ) (i : ℕ) → NoneBefore (Passes (is_byte b) xs) 0 (length xs) i → Passes (is_byte b) xs i
    → separated_parts b xs ≡ take i xs ∷ separated_parts b (drop (suc i) xs)
parts_found b xs i before here =
    found b xs i before.high here (λ k below. not_true (slice_index xs k == b) (before.before k (omega arith) below))

pub parts_none : (b : ℕ) (xs : List ℕ) → Nowhere (Passes (is_byte b) xs) 0 (length xs) → separated_parts b xs ≡ xs ∷ []
parts_none b xs nowhere = none b xs (λ k below. not_true (slice_index xs k == b) (nowhere k (omega arith) below))

-- the parts that are to come, where the byte stands next at end
pub next_found : (b at end : ℕ) (text rest : List ℕ) (over : Bool) → over ≡ false → rest ≡ drop at text
    → NoneBefore (Passes (is_byte b) rest) 0 (length rest) end → Passes (is_byte b) rest end
    → cond over [] (separated_parts b (drop at text)) ≡ take end rest ∷ cond over [] (separated_parts b (drop (at + (end + 1)) text))
next_found b at end text rest true going is before here = absurd (cc going)
next_found b at end text rest false going is before here =
    let past : at + suc end ≡ at + (end + 1) = omega arith in
    ap (separated_parts b) (sym is) ∙ parts_found b rest end before here
    ∙ ap (λ (l : List ℕ). take end rest ∷ separated_parts b l) (ap (drop (suc end)) is ∙ drop-drop (suc end) at text ∙ ap (λ n. drop n text) past)

-- the last part
pub next_none : (b at : ℕ) (text rest : List ℕ) (over : Bool) → over ≡ false → rest ≡ drop at text
    → Nowhere (Passes (is_byte b) rest) 0 (length rest) → cond over [] (separated_parts b (drop at text)) ≡ rest ∷ []
next_none b at text rest true going is nowhere = absurd (cc going)
next_none b at text rest false going is nowhere = ap (separated_parts b) (sym is) ∙ parts_none b rest nowhere

-- what is left of a text
pub the_rest : (text : List ℕ) (at : ℕ) → take (length text - at) (drop at text) ≡ drop at text
the_rest text at = take_all (length text - at) (drop at text) (omega (arith, length-drop at text))

-- a list that begins with w
begins : (xs : List (List ℕ)) (w : List ℕ) (ys : List (List ℕ)) → xs ≡ w ∷ ys → xs ≡ w ∷ drop 1 xs
begins xs w ys is = is ∙ ap (λ (l : List (List ℕ)). w ∷ drop 1 l) (sym is)

-- the next part, which stays to come, where the byte stands next at end
pub peeked_found : (b at end : ℕ) (text rest : List ℕ) (over : Bool) → over ≡ false → rest ≡ drop at text
    → NoneBefore (Passes (is_byte b) rest) 0 (length rest) end → Passes (is_byte b) rest end
    → cond over [] (separated_parts b (drop at text)) ≡ take end rest ∷ drop 1 (cond over [] (separated_parts b (drop at text)))
peeked_found b at end text rest over going is before here = begins _ _ _ (next_found b at end text rest over going is before here)

pub peeked_none : (b at : ℕ) (text rest : List ℕ) (over : Bool) → over ≡ false → rest ≡ drop at text
    → Nowhere (Passes (is_byte b) rest) 0 (length rest)
    → cond over [] (separated_parts b (drop at text)) ≡ rest ∷ drop 1 (cond over [] (separated_parts b (drop at text)))
peeked_none b at text rest over going is nowhere = begins _ _ _ (next_none b at text rest over going is nowhere)
