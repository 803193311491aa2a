use Rattle.std.proofs.Common.{◌≡◌, ◌<◌, ◌^◌, map, filter, not, false, get_or}
use Rattle.std.specs.Prelude.{IfSome}
use Rattle.std.specs.List.{range_with_len}
use Rattle.escrow_core.specs.Terms.{lock_expiry}
use Rattle.escrow_core.proofs.Least.{least_number}
use Rattle.escrow_core.proofs.times.refund_expiry.Given as goal

abbrev pub invariant-loop-lock : goal.invariant-loop-lock
invariant-loop-lock l = record {
  exact : l.least ≡ least_number (map (lock_expiry l.deal.mode l.deal l.arc l.terms) (filter (λ i. not (get_or l.opened i false)) (range_with_len 0 l.lock)));
  small : IfSome l.least (λ n. n < 2 ^ 62);
}
