use Rattle.std.proofs.Common.{◌≡◌, filter}
use Rattle.std.specs.List.{range_with_len}
use Rattle.history_index.specs.Indexes.{all_entries}
use Rattle.party_answer.specs.Stale.{is_stale}
use Rattle.party_answer.proofs.stale.stale_arcs.Given as goal

abbrev pub invariant-arcs : goal.invariant-arcs
invariant-arcs l = l.stale.items ≡ filter (is_stale l.deal l.me (all_entries l.known) l.seen) (range_with_len 0 l.arc)
