use Rattle.std.proofs.Common.{◌≡◌, take, None}
use Rattle.swap_base.specs.Lists.{first_given_answer}
use Rattle.conduct_check.proofs.Unlocks.{for_lock}
use Rattle.conduct_check.proofs.keys.first_key.Given as goal

abbrev pub invariant-loop-key : goal.invariant-loop-key
invariant-loop-key l = first_given_answer (for_lock l.lock) (take l.key-index l.keys) ≡ None
