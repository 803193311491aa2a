use Rattle.std.proofs.Common.{refl, subst, sym}
use Rattle.std.specs.Prelude.{codes}
use Rattle.offer_text.specs.Words.{number_data, IsBelow}
use Rattle.offer_text.proofs.Values.{below_with}
use Rattle.offer_text.proofs.terms.put_first_terms.Goals as goal

pub put_optional_number-requires : goal.put_optional_number-requires
put_optional_number-requires c = subst (IsBelow (codes "delta")) (sym c.in_ok-put_text.ensures.ok) refl

pub put_optional_number-requires-2 : goal.put_optional_number-requires-2
put_optional_number-requires-2 c =
    below_with (codes "bound") (codes "delta") number_data c.args.delta _ _ c.in_ok-put_optional_number.ensures refl
    (subst (IsBelow (codes "bound")) (sym c.in_ok-put_text.ensures.ok) refl)

pub put_number-requires : goal.put_number-requires
put_number-requires c =
    below_with (codes "arc") (codes "bound") number_data c.args.bound _ _ c.in_ok-put_optional_number-2.ensures refl
    (below_with (codes "arc") (codes "delta") number_data c.args.delta _ _ c.in_ok-put_optional_number.ensures refl
    (subst (IsBelow (codes "arc")) (sym c.in_ok-put_text.ensures.ok) refl))
