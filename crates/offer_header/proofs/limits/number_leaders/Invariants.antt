use Rattle.std.proofs.Common.{◌≡◌, take}
use Rattle.offer_header.proofs.limits.number_leaders.Given as goal

abbrev pub invariant-loop-leader : goal.invariant-loop-leader
invariant-loop-leader l = l.list.items ≡ take l.leader-index l.leaders
