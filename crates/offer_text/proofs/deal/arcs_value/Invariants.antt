use Rattle.std.proofs.Common.{◌≡◌, map}
use Rattle.std.specs.List.{range_with_len}
use Rattle.serde_json.specs.View.{view}
use Rattle.offer_text.specs.HeaderLine.{arc_json}
use Rattle.offer_text.proofs.deal.arcs_value.Given as goal

abbrev pub invariant-loop-arc : goal.invariant-loop-arc
invariant-loop-arc l = map view l.list.items ≡ map (arc_json l.names l.deal) (range_with_len 0 l.arc)
