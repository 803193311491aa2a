use Rattle.std.proofs.Common.{◌≡◌, ◌++◌, ℕ, List, subst}
use Rattle.hex.specs.Hex.{encode_lower}
use Rattle.party_rows.proofs.Fields.{digests_after, put_both}
use Rattle.party_rows.proofs.row_line.put_each_digest.Goals as goal

pub returns : goal.returns
returns c =
    put_both c.put_further_digests.result _ _ _ _ _ _
    (subst (λ (x : List ℕ). c.put_digits.new.out.items ≡ c.args.out.now.items ++ encode_lower x) c.as_slice.ensures c.in_ok-put_digits.ensures)
    (digests_after c.args.first.now c.args.further.now) c.put_further_digests.ensures
