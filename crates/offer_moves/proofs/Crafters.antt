-- The parties that craft a hashkey, one after another: whether one conforms.
use Rattle.std.proofs.Common.{◌≡◌, ℕ, ◌+◌, ◌<◌, ◌≤◌, ◌||◌, Bool, true, false, List, length, get_or, take, slice_index_or, sym, ap, ◌∙◌}
use Rattle.std.specs.List.{list_any}
use Rattle.std.proofs.lemmas.List.{take_all}
use Rattle.std.proofs.lemmas.List.Folds.{list_any_more, list_any_at}

abbrev pub any_of : List Bool → List ℕ → Bool
any_of conforming via = list_any (λ v. slice_index_or conforming v false) via

pub none_yet : (conforming : List Bool) (via : List ℕ) (i v : ℕ) → i < length via → v ≡ get_or via i v → slice_index_or conforming v false ≡ false
    → any_of conforming (take i via) ≡ false → any_of conforming (take (i + 1) via) ≡ false
none_yet conforming via i v l is h so_far =
    list_any_more (λ v. slice_index_or conforming v false) via i v l
    ∙ (ap (λ b. b || slice_index_or conforming (get_or via i v) false) so_far ∙ (ap (λ x. slice_index_or conforming x false) (sym is) ∙ h))

pub one_found : (conforming : List Bool) (via : List ℕ) (i v : ℕ) → i < length via → v ≡ get_or via i v → slice_index_or conforming v false ≡ true
    → any_of conforming via ≡ true
one_found conforming via i v l is h =
    list_any_at (λ v. slice_index_or conforming v false) via i v l (ap (λ x. slice_index_or conforming x false) (sym is) ∙ h)

pub none_at_all : (conforming : List Bool) (via : List ℕ) (i : ℕ) → length via ≤ i → any_of conforming (take i via) ≡ false → any_of conforming via ≡ false
none_at_all conforming via i le so_far = sym (ap (any_of conforming) (take_all i via le)) ∙ so_far
