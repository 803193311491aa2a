use Rattle.std.proofs.Common.{◌≡◌, ◌++◌, take}
use Rattle.conduct_check.specs.Sent.{shown, unlocks_made}
use Rattle.conduct_check.proofs.keys.put_unlocks.Given as goal

abbrev pub invariant-loop-made : goal.invariant-loop-made
invariant-loop-made l = shown l.keys.items ≡ shown l.initial.keys.items ++ unlocks_made (take l.made-index l.calls) l.party
