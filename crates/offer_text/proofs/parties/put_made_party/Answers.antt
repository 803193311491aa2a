use Rattle.std.proofs.Common.{refl, subst, sym}
use Rattle.std.specs.Prelude.{codes}
use Rattle.serde_json.specs.Data.{no_members}
use Rattle.offer_text.specs.Words.{digest_data, IsBelow}
use Rattle.offer_text.proofs.Values.{below_optional}
use Rattle.offer_text.proofs.parties.put_made_party.Goals as goal

pub put_text-requires : goal.put_text-requires
put_text-requires c =
    subst (IsBelow (codes "name")) (sym c.in_ok-put_seed.ensures) (below_optional (codes "name") (codes "seed") digest_data _ no_members refl tt)
