use Rattle.std.proofs.Common.{◌≡◌, ◌++◌, drop}
use Rattle.swap_base.specs.Text.{lines}
use Rattle.party_rows.specs.Inside.{comma_digest}
use Rattle.party_rows.proofs.row_line.put_further_digests.Given as goal

abbrev pub invariant-loop-digest : goal.invariant-loop-digest
invariant-loop-digest l = l.out.items ++ lines comma_digest l.digest-index (drop l.digest-index l.digests) ≡ l.fn.out.items ++ lines comma_digest 0 l.digests
