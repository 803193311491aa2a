use Rattle.std.proofs.Common.{◌≡◌, ◌++◌, filter, is_none}
use Rattle.std.specs.List.{range_with_len}
use Rattle.party_wallet.specs.Value.{signed_hashkey}
use Rattle.party_answer.proofs.stale.put_unsigned.Given as goal

abbrev pub invariant-loop-lock : goal.invariant-loop-lock
invariant-loop-lock l =
    l.locks.items ≡ l.initial.locks.items ++ filter (λ i. is_none (signed_hashkey l.kept.keys i)) (range_with_len 0 l.lock)
