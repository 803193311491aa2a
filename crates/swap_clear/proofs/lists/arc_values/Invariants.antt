use Rattle.std.proofs.Common.{◌≡◌, map, take}
use Rattle.serde_json.specs.View.{view}
use Rattle.swap_clear.specs.ClearedText.{proposal_data, proposal}
use Rattle.swap_clear.proofs.lists.arc_values.Given as goal

abbrev pub invariant-loop-arc : goal.invariant-loop-arc
invariant-loop-arc l = map view l.list.items ≡ map (λ a. proposal_data l.names (proposal l.arcs a)) (take l.arc-index l.numbers)
