use Rattle.std.proofs.Common.{◌≡◌, None, map}
use Rattle.std.specs.List.{range_with_len}
use Rattle.swap_base.specs.Lists.{first_given_answer}
use Rattle.due_calls.specs.DueUnlock.{next_due_unlock}
use Rattle.party_wallet.specs.Value.{signed_hashkey}
use Rattle.due_calls.proofs.unlock.first_unlock.Given as goal

abbrev pub invariant-loop-lock : goal.invariant-loop-lock
invariant-loop-lock g l = first_given_answer (next_due_unlock l.deal l.me (signed_hashkey l.signed.keys) (map g.F.Facts.entries l.known)) (range_with_len 0 l.lock) ≡ None
