use Rattle.std.proofs.Common.{refl}
use Rattle.std.specs.Prelude.{codes}
use Rattle.offer_text.specs.Words.{number_data}
use Rattle.offer_text.proofs.Values.{below_none, below_with}
use Rattle.offer_text.proofs.terms.put_last_terms.Goals as goal

pub put_optional_number-requires-2 : goal.put_optional_number-requires-2
put_optional_number-requires-2 c =
    below_with (codes "start") (codes "timelock") number_data c.args.timelock _ _ c.in_ok-put_optional_number.ensures refl
    (below_none (codes "start") _ c.requires)

pub put_locks-requires : goal.put_locks-requires
put_locks-requires c =
    below_with (codes "locks") (codes "start") number_data c.args.start _ _ c.in_ok-put_optional_number-2.ensures refl
    (below_with (codes "locks") (codes "timelock") number_data c.args.timelock _ _ c.in_ok-put_optional_number.ensures refl
    (below_none (codes "locks") _ c.requires))
