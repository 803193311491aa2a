use Rattle.std.proofs.Common.{◌≡◌, replicate, None}
use Rattle.party_rows.proofs.rows.no_rows.Given as goal

abbrev pub invariant-parties : goal.invariant-parties
invariant-parties l = l.rows.items ≡ replicate l._party None
