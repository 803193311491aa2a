use Rattle.std.proofs.Common.{◌≡◌, ◌++◌, take}
use Rattle.std.specs.List.{flat_map}
use Rattle.party_answer.specs.Text.{unkept_text}
use Rattle.party_answer.proofs.text.put_all_unkept.Given as goal

abbrev pub invariant-loop-unkept : goal.invariant-loop-unkept
invariant-loop-unkept l = l.out.items ≡ l.initial.out.items ++ flat_map unkept_text (take l.unkept-index l.list)
