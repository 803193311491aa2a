use Rattle.std.proofs.Common.{◌≡◌, map}
use Rattle.std.specs.List.{range_with_len}
use Rattle.serde_json.specs.View.{view}
use Rattle.offer_text.specs.HeaderLine.{leader_value}
use Rattle.offer_text.proofs.deal.leaders_value.Given as goal

abbrev pub invariant-loop-lock : goal.invariant-loop-lock
invariant-loop-lock l = map view l.list.items ≡ map (leader_value l.names l.deal) (range_with_len 0 l.lock)
