use Rattle.std.proofs.Common.{◌≡◌, ◌<◌, ◌^◌, map, filter, not}
use Rattle.std.specs.Prelude.{IfSome}
use Rattle.std.specs.List.{range_with_len}
use Rattle.ledger_core.specs.Book.{history}
use Rattle.ledger_core.specs.History.{is_open}
use Rattle.swap_rules.specs.Party.{expiry}
use Rattle.escrow_core.proofs.Least.{least_number}
use Rattle.due_calls.proofs.heights.least_expiry.Given as goal

abbrev pub invariant-loop-lock : goal.invariant-loop-lock
invariant-loop-lock g l = record {
  exact : l.least ≡ least_number (map (expiry l.deal l.arc) (filter (λ i.
      not (is_open (history (map g.F.Facts.entries l.known) l.arc) i)) (range_with_len 0 l.lock)));
  small : IfSome l.least (λ n. n < 2 ^ 62);
}
