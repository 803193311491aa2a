use Rattle.std.proofs.Common.{◌≡◌, map, take}
use Rattle.party_rows.specs.Dealt.{told_hashlock}
use Rattle.party_rows.proofs.dealt.told_hashlocks.Given as goal

abbrev pub invariant-loop-leader : goal.invariant-loop-leader
invariant-loop-leader l = l.hashlocks.items ≡ map (told_hashlock l.rows) (take l.leader-index l.leaders)
