use Rattle.std.proofs.Common.{◌≡◌, take, None}
use Rattle.swap_base.specs.Lists.{first_given_answer}
use Rattle.swap_job.specs.MoveKeys.{item_opening}
use Rattle.swap_job.proofs.openings.find_key.Given as goal

abbrev pub invariant-loop-item : goal.invariant-loop-item
invariant-loop-item l = first_given_answer (item_opening l.lock) (take l.item-index l.items) ≡ None
