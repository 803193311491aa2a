use Rattle.std.proofs.Common.{◌≡◌}
use Rattle.std.specs.List.{range_with_len}
use Rattle.swap_base.specs.Lists.{greatest}
use Rattle.ledger_core.specs.Book.{history}
use Rattle.ledger_core.specs.History.{opened}
use Rattle.history_index.specs.Indexes.{all_entries}
use Rattle.swap_rules.specs.Late.{height_of_opening}
use Rattle.conduct_check.proofs.openings.trigger_height.Given as goal

abbrev pub invariant-loop-lock : goal.invariant-loop-lock
invariant-loop-lock l = l.last ≡ greatest (λ i. height_of_opening (opened (history (all_entries l.known) l.arc) i)) (range_with_len 0 l.lock)
