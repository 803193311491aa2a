-- A list that is made of another one, one member at a time.
use Rattle.std.proofs.Common.{◌≡◌, ℕ, ◌+◌, ◌<◌, ◌≤◌, List, [], ◌∷◌, ◌++◌, length, get_or, map, fold, take, sym, ap, ◌∙◌}
use Rattle.std.proofs.lemmas.List.{take_more, take_all, map_push}
use Rattle.std.proofs.lemmas.List.Sums.{fold_more}
use Rattle.offer_header.specs.Names.{with_name, names_stated}
use Rattle.offer_header.specs.declared.raw.RawParty.{RawParty}

pub one_more : {A B : Type 0} (f : A → B) (xs : List A) (i : ℕ) (x : A) (old new : List B) → i < length xs → x ≡ get_or xs i x → old ≡ map f (take i xs)
    → new ≡ old ++ f x ∷ [] → new ≡ map f (take (i + 1) xs)
one_more {B = B} f xs i x old new lt at so_far e =
    e ∙ ap (λ (l : List B). l ++ f x ∷ []) so_far ∙ sym (map_push f (take i xs) x) ∙ ap (λ b. map f (take i xs ++ b ∷ [])) at
    ∙ ap (map f) (sym (take_more xs i x lt))

-- one more name that a header states

pub stated_on : (parties : List RawParty) (i : ℕ) (p : RawParty) (old new : List (List ℕ)) → i < length parties → p ≡ get_or parties i p
    → new ≡ with_name old p → old ≡ names_stated (take i parties) → new ≡ names_stated (take (i + 1) parties)
stated_on parties i p old new lt is e so_far =
    e ∙ (ap (λ (names : List (List ℕ)). with_name names p) so_far ∙ (ap (λ (x : RawParty). with_name (fold with_name [] (take i parties)) x) is
    ∙ sym (fold_more with_name [] parties i p lt)))

pub stated_done : (parties : List RawParty) (i : ℕ) (old : List (List ℕ)) → length parties ≤ i → old ≡ names_stated (take i parties)
    → old ≡ names_stated parties
stated_done parties i old le so_far = so_far ∙ ap (λ (ps : List RawParty). fold with_name [] ps) (take_all i parties le)
