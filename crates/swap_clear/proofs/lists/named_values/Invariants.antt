use Rattle.std.proofs.Common.{◌≡◌, map, take}
use Rattle.serde_json.specs.View.{view}
use Rattle.swap_clear.specs.ClearedText.{named_data}
use Rattle.swap_clear.proofs.lists.named_values.Given as goal

abbrev pub invariant-loop-p : goal.invariant-loop-p
invariant-loop-p l = map view l.list.items ≡ map (named_data l.field l.names) (take l.p-index l.parties)
