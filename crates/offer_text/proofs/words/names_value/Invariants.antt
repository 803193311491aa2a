use Rattle.std.proofs.Common.{◌≡◌, map, take}
use Rattle.serde_json.specs.View.{view}
use Rattle.offer_text.specs.Words.{name_data}
use Rattle.offer_text.proofs.words.names_value.Given as goal

abbrev pub invariant-loop-p : goal.invariant-loop-p
invariant-loop-p l = map view l.list.items ≡ map (name_data l.names) (take l.p-index l.parties)
