use Rattle.std.proofs.Common.{◌≡◌, ◌++◌, take}
use Rattle.std.specs.List.{flat_map}
use Rattle.party_answer.specs.Text.{stale_text}
use Rattle.party_answer.proofs.text.put_all_stale.Given as goal

abbrev pub invariant-loop-arc : goal.invariant-loop-arc
invariant-loop-arc l = l.out.items ≡ l.initial.out.items ++ flat_map (stale_text l.seen) (take l.arc-index l.stale)
