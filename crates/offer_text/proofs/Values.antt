-- Lists of JSON values, one more at a time.
use Rattle.std.proofs.Common.{◌≡◌, ℕ, ◌+◌, ◌<◌, List, [], ◌∷◌, ◌++◌, length, get_or, map, take, Option, Some, None}
use Rattle.std.proofs.Common.{refl, sym, ap, ◌∙◌, arith, subst}
use Rattle.std.specs.Ordering.{nat_cmp}
use Rattle.std.specs.declared.cmp.Ordering.TheVariants.{Less}
use Rattle.std.specs.Cmp.Lexicographic.{slice_cmp}
use Rattle.std.specs.List.{range_with_len}
use Rattle.std.proofs.lemmas.List.{take_more, map_push}
use Rattle.std.proofs.lemmas.List.FromFn.{map-range_with_len_more}
use Rattle.serde_json.specs.Data.{Data, Members, no_members, member, put}
use Rattle.serde_json.specs.View.{view}
use Rattle.serde_json.specs.declared.value.Value.{Value}
use Rattle.offer_text.specs.Words.{with_optional, IsBelow}

-- one more of the first n numbers
pub number_more : (f : ℕ → Data) (old new : List Value) (n : ℕ) (x : Value) → map view old ≡ map f (range_with_len 0 n) → new ≡ old ++ x ∷ []
    → view x ≡ f n → map view new ≡ map f (range_with_len 0 (n + 1))
number_more f old new n x so_far e is =
    ap (map view) e ∙ map_push view old x ∙ ap (λ (l : List Data). l ++ view x ∷ []) so_far ∙ ap (λ (d : Data). map f (range_with_len 0 n) ++ d ∷ []) is
    ∙ sym (map-range_with_len_more f 0 n n (omega arith))

-- one more of a list
pub item_more : {A : Type 0} (f : A → Data) (old new : List Value) (xs : List A) (i : ℕ) (a : A) (x : Value) → i < length xs → a ≡ get_or xs i a
    → map view old ≡ map f (take i xs) → new ≡ old ++ x ∷ [] → view x ≡ f a → map view new ≡ map f (take (i + 1) xs)
item_more f old new xs i a x lt at so_far e is =
    ap (map view) e ∙ map_push view old x ∙ ap (λ (l : List Data). l ++ view x ∷ []) so_far ∙ ap (λ (d : Data). map f (take i xs) ++ d ∷ []) is
    ∙ sym (map_push f (take i xs) a) ∙ ap (λ b. map f (take i xs ++ b ∷ [])) at ∙ ap (map f) (sym (take_more xs i a lt))

-- a field that stands before the others is put before them
pub put_is_first : (field : List ℕ) (d : Data) (ms : Members) → IsBelow field ms → put field d ms ≡ member field d ms
put_is_first field d no_members k = refl
put_is_first field d (member other e ms) k = rw k refl

-- a field that stands before another one and those after it stands before them also where the other
-- isn't there
pub below_optional : {A : Type 0} (name field : List ℕ) (f : A → Data) (o : Option A) (ms : Members) → slice_cmp nat_cmp name field ≡ Less → IsBelow name ms
    → IsBelow name (with_optional field f o ms)
below_optional name field f None ms first rest = rest
below_optional name field f (Some x) ms first rest = first

-- a field that stands before the fields of a list stands before them also after an optional field
-- was put there
pub below_with : {A : Type 0} (name field : List ℕ) (f : A → Data) (o : Option A) (before after : Members) → after ≡ with_optional field f o before
    → slice_cmp nat_cmp name field ≡ Less → IsBelow name before → IsBelow name after
below_with name field f o before after e first rest = subst (IsBelow name) (sym e) (below_optional name field f o before first rest)

pub below_none : (name : List ℕ) (ms : Members) → ms ≡ no_members → IsBelow name ms
below_none name ms e = subst (IsBelow name) (sym e) tt
