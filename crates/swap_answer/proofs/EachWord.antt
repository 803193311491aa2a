-- Words that are read one by one.
use Rattle.std.proofs.Common.{◌≡◌, ℕ, Bool, true, false, cond, List, [], ◌∷◌, ◌++◌, map, Result, Ok, Err, refl, sym, ap, ◌∙◌, append_assoc}
use Rattle.std.specs.Str.{IsUtf8, is_utf8}
use Rattle.std.proofs.lemmas.Str.{IsUtf8-from_is_utf8, is_utf8-from_IsUtf8}
use Rattle.swap_base.specs.Fault.{◌>>=◌}
use Rattle.transcript_book.specs.declared.said.Misspelling.{Misspelling}
use Rattle.transcript_book.specs.declared.said.Misspelling.TheVariants.{Misspelt}
use Rattle.transcript_book.specs.Reading.{parse_each_word}
use Rattle.transcript_book.proofs.Members.{with_front}
use Rattle.swap_answer.specs.Words.{utf8_word}

pub is_word : (w t : List ℕ) → IsUtf8 w → t ≡ w → utf8_word w ≡ Ok t
is_word w t k e =
    ap (λ (b : Bool). let r : Result (List ℕ) Misspelling = cond b (Ok w) (Err Misspelt) in r) (is_utf8-from_IsUtf8 w k)
    ∙ ap (λ (x : List ℕ). let r : Result (List ℕ) Misspelling = Ok x in r) (sym e)

pub no_word : (w : List ℕ) → ¬ (IsUtf8 w) → utf8_word w ≡ Err Misspelt
no_word w k = by (is_utf8 w) refl
  where
    by : (b : Bool) → is_utf8 w ≡ b → ◌≡◌ {A = Result (List ℕ) Misspelling} (cond b (Ok w) (Err Misspelt)) (Err Misspelt)
    by true e = absurd (k (IsUtf8-from_is_utf8 w e))
    by false e = refl

map_snoc : {A B : Type 0} (f : A → B) (xs : List A) (x : A) → map f (xs ++ x ∷ []) ≡ map f xs ++ f x ∷ []
map_snoc f [] x = refl
map_snoc f (y ∷ xs) x = ap (λ zs. f y ∷ zs) (map_snoc f xs x)

regroup : (front : List (List ℕ)) (s : List ℕ) (read : Result (List (List ℕ)) Misspelling)
    → with_front front (read >>= λ xs. Ok (s ∷ xs)) ≡ with_front (front ++ s ∷ []) read
regroup front s (Ok xs) =
    ap (λ (zs : List (List ℕ)). let r : Result (List (List ℕ)) Misspelling = Ok zs in r) (sym (append_assoc front (s ∷ []) xs))
regroup front s (Err e) = refl

-- one more word
pub words_on : {A : Type 0} (view : A → List ℕ) (items more : List A) (x : A) (old new : List (List ℕ)) (w : List ℕ) (total : Result (List (List ℕ)) Misspelling)
    → more ≡ items ++ x ∷ [] → old ≡ w ∷ new → utf8_word w ≡ Ok (view x) → with_front (map view items) (parse_each_word utf8_word old) ≡ total
    → with_front (map view more) (parse_each_word utf8_word new) ≡ total
words_on view items more x old new w total pushed is one so_far =
    ap (λ m. with_front m (parse_each_word utf8_word new)) (ap (map view) pushed ∙ map_snoc view items x)
    ∙ sym (regroup (map view items) (view x) (parse_each_word utf8_word new))
    ∙ ap (λ (r : Result (List ℕ) Misspelling). with_front (map view items) (r >>= λ y. parse_each_word utf8_word new >>= λ xs. Ok (y ∷ xs))) (sym one)
    ∙ ap (λ ps. with_front (map view items) (parse_each_word utf8_word ps)) (sym is)
    ∙ so_far
