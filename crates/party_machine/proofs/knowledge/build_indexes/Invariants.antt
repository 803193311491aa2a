use Rattle.std.proofs.Common.{◌≡◌, map}
use Rattle.std.specs.List.{range_with_len}
use Rattle.history_index.specs.Value.{new_index}
use Rattle.party_machine.proofs.knowledge.build_indexes.Given as goal

abbrev pub invariant-arcs : goal.invariant-arcs
invariant-arcs l = l.known.items ≡ map (new_index l.deal) (range_with_len 0 l.arc)
