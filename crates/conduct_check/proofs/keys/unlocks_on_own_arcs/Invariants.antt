use Rattle.std.proofs.Common.{◌≡◌}
use Rattle.std.specs.List.{flat_map, range_with_len}
use Rattle.ledger_core.specs.Book.{history}
use Rattle.history_index.specs.Indexes.{all_entries}
use Rattle.conduct_check.specs.Sent.{shown, lock_unlocks}
use Rattle.conduct_check.proofs.keys.unlocks_on_own_arcs.Given as goal

abbrev pub invariant-loop-arc : goal.invariant-loop-arc
invariant-loop-arc l = shown l.keys.items ≡ flat_map (λ a. lock_unlocks (history (all_entries l.known) a) l.party) (range_with_len 0 l.arc)
