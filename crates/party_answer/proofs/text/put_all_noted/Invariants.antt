use Rattle.std.proofs.Common.{◌≡◌, ◌++◌, take}
use Rattle.std.specs.List.{flat_map}
use Rattle.party_answer.specs.Text.{noted_text}
use Rattle.party_answer.proofs.text.put_all_noted.Given as goal

abbrev pub invariant-loop-lock : goal.invariant-loop-lock
invariant-loop-lock l = l.out.items ≡ l.initial.out.items ++ flat_map noted_text (take l.lock-index l.locks)
