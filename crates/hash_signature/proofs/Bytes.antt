-- Signatures are the same where their bytes are.
use Rattle.std.proofs.Common.{◌≡◌, ℕ, Bool, true, false, List, [], ◌∷◌, ◌++◌, refl, sym, ap, ◌∙◌}
use Rattle.std.specs.List.{flat_map}
use Rattle.std.specs.Str.{bytes_eq}
use Rattle.std.proofs.lemmas.Slice.Eq.{bytes_eq-Decides}
use Rattle.swap_base.specs.Lists.{same_list}
use Rattle.swap_base.specs.Text.{joined}
use Rattle.swap_base.proofs.Lists.{same_list-true, same_list-refl}
use Rattle.hash_signature.specs.Signature.{text_values}
use Rattle.hash_signature.specs.declared.sig.Sig.{Sig}

-- tests that hold at once are the same
pub same_truth : (a b : Bool) → (a ≡ true → b ≡ true) → (b ≡ true → a ≡ true) → a ≡ b
same_truth true b f g = sym (f refl)
same_truth false true f g = g refl
same_truth false false f g = refl

bytes_are_same : (xs ys : List ℕ) → bytes_eq xs ys ≡ true → xs ≡ ys
bytes_are_same xs ys e = (bytes_eq-Decides xs ys).0 e

bytes_eq_self : (xs : List ℕ) → bytes_eq xs xs ≡ true
bytes_eq_self xs = (bytes_eq-Decides xs xs).1 refl

-- where the values are those of the bytes, and the bytes those of the values
pub same_bytes : (bytes others : List ℕ) (values further : List (List ℕ)) → bytes ≡ joined values → text_values bytes ≡ values → others ≡ joined further
    → text_values others ≡ further → bytes_eq bytes others ≡ same_list bytes_eq values further
same_bytes bytes others values further joins cut joins_other cut_other =
    same_truth _ _
    (λ e. ap (λ v. same_list bytes_eq values v) (sym (sym cut ∙ ap text_values (bytes_are_same bytes others e) ∙ cut_other))
    ∙ same_list-refl bytes_eq bytes_eq_self values)
    (λ e. ap (λ v. bytes_eq bytes v) (sym (joins ∙ ap joined (same_list-true bytes_eq bytes_are_same values further e) ∙ sym joins_other))
    ∙ bytes_eq_self bytes)

-- the values one after another are their bytes
pub flat_joined : (xss : List (List ℕ)) → flat_map (λ x. x) xss ≡ joined xss
flat_joined [] = refl
flat_joined (xs ∷ xss) = ap (λ l. xs ++ l) (flat_joined xss)

pub sigs_are_same : (xs ys : List Sig) → same_list (λ s t. same_list bytes_eq s t) xs ys ≡ true → xs ≡ ys
sigs_are_same xs ys e = same_list-true (λ s t. same_list bytes_eq s t) (λ s t h. same_list-true bytes_eq bytes_are_same s t h) xs ys e
