use Rattle.std.proofs.Common.{◌≡◌, map, take}
use Rattle.serde_json.specs.View.{view}
use Rattle.offer_text.specs.Moves.{move_data}
use Rattle.offer_text.proofs.moves.moves_value.Given as goal

abbrev pub invariant-loop-mv : goal.invariant-loop-mv
invariant-loop-mv l = map view l.list.items ≡ map (move_data l.names) (take l.mv-index l.moves)
