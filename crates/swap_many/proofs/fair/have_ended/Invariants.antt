use Rattle.std.proofs.Common.{◌≡◌, take, true, length, nat_lt}
use Rattle.std.specs.List.{range_with_len, list_all}
use Rattle.swap_many.specs.Value.{nth_chain}
use Rattle.swap_many.proofs.fair.have_ended.Given as goal

abbrev pub invariant-each : goal.invariant-each
invariant-each l = list_all (λ i. nat_lt l.horizon (nth_chain l.worlds i).clock.height) (take l.chain (range_with_len 0 (length l.worlds.openings))) ≡ true
