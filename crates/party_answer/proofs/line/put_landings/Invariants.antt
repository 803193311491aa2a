use Rattle.std.proofs.Common.{◌≡◌, ◌++◌, take}
use Rattle.std.specs.List.{flat_map}
use Rattle.party_answer.specs.Text.{landing_text}
use Rattle.party_answer.proofs.line.put_landings.Given as goal

abbrev pub invariant-loop-timed : goal.invariant-loop-timed
invariant-loop-timed l = l.out.items ≡ l.initial.out.items ++ flat_map landing_text (take l.timed-index l.calls)
