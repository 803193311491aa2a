use Rattle.std.proofs.Common.{◌≡◌}
use Rattle.std.specs.List.{range_with_len}
use Rattle.swap_base.specs.Lists.{greatest}
use Rattle.party_terms.specs.Times.{busy_until}
use Rattle.party_terms.proofs.heights.awake_height.Given as goal

abbrev pub invariant-arcs : goal.invariant-arcs
invariant-arcs l = l.last ≡ greatest (busy_until l.deal l.party) (range_with_len 0 l.arc)
