use Rattle.std.proofs.Common.{◌≡◌, map}
use Rattle.std.specs.List.{range_with_len}
use Rattle.party_rows.specs.Dealt.{told_keys}
use Rattle.party_rows.proofs.dealt.each_keys.Given as goal

abbrev pub invariant-parties : goal.invariant-parties
invariant-parties l = l.keys.items ≡ map (told_keys l.rows) (range_with_len 0 l.party)
