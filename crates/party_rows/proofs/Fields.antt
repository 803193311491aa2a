-- Fields of a row's line, put one after another.
use Rattle.std.proofs.Common.{◌≡◌, ℕ, ◌+◌, List, [], ◌∷◌, ◌++◌, map, codes, Result, Ok, Err, sym, ap, ◌∙◌, append_assoc}
use Rattle.std.specs.Prelude.{OnOk}
use Rattle.std.proofs.lemmas.List.{append-nil}
use Rattle.hex.specs.Hex.{encode_lower}
use Rattle.swap_base.specs.Text.{lines}
use Rattle.swap_base.proofs.Lines.{appended}
use Rattle.transcript_book.specs.Between.{between}
use Rattle.transcript_book.specs.Words.{list_word}
use Rattle.party_rows.specs.declared.row.Row.{Row}
use Rattle.party_rows.specs.Inside.{comma_digest}
use Rattle.party_rows.specs.Row.{hashlock_word, row_line}

-- digests after the first one are each after a comma
pub digests_on : (n : ℕ) (w : List ℕ) (xs : List (List ℕ)) → between 44 (w ∷ map encode_lower xs) ≡ w ++ lines comma_digest n xs
unfolding lines
digests_on n w [] = sym (append-nil w)
digests_on n w (x ∷ xs) = ap (λ (l : List ℕ). w ++ 44 ∷ l) (digests_on (n + 1) (encode_lower x) xs)

pub digests_after : (x : List ℕ) (xs : List (List ℕ)) → list_word (map encode_lower (x ∷ xs)) ≡ encode_lower x ++ lines comma_digest 0 xs
digests_after x xs = digests_on 0 (encode_lower x) xs

-- a text is put in two parts
pub put_both : {T E : Type 0} (r : Result T E) (a b c x y text : List ℕ) → b ≡ a ++ x → text ≡ x ++ y → OnOk r (c ≡ b ++ y) → OnOk r (c ≡ a ++ text)
put_both (Ok t) a b c x y text p e q = appended a b c x y p q ∙ ap (λ (l : List ℕ). a ++ l) (sym e)
put_both (Err f) a b c x y text p e q = tt

all_parts : (w n s h k e : List ℕ) → ((((w ++ (n ++ s)) ++ h) ++ s) ++ k) ++ e ≡ (w ++ (n ++ (s ++ (h ++ (s ++ k))))) ++ e
all_parts w n s h k e = simp append_assoc

-- the fields of a row's line, put one after another
pub row_text : (name : List ℕ) (row : Row) (a b c d e : List ℕ) → a ≡ codes "row " ++ (name ++ codes " ") → b ≡ a ++ hashlock_word row.hashlock
    → c ≡ b ++ codes " " → d ≡ c ++ list_word (map encode_lower row.keys) → e ≡ d ++ codes "\n" → e ≡ row_line name row
unfolding row_line
row_text name row a b c d e ka kb kc kd ke =
    let k = list_word (map encode_lower row.keys) in
    let h = hashlock_word row.hashlock in
    ke ∙ ap (λ (x : List ℕ). x ++ 10 ∷ []) (kd ∙ ap (λ (x : List ℕ). x ++ k) (kc ∙ ap (λ (x : List ℕ). x ++ codes " ") (kb ∙ ap (λ (x : List ℕ). x ++ h) ka)))
    ∙ all_parts (codes "row ") name (codes " ") h k (10 ∷ [])
