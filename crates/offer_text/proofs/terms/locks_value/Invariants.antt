use Rattle.std.proofs.Common.{◌≡◌, map, take}
use Rattle.serde_json.specs.View.{view}
use Rattle.offer_text.specs.Words.{digest_data}
use Rattle.offer_text.proofs.terms.locks_value.Given as goal

abbrev pub invariant-locks : goal.invariant-locks
invariant-locks l = map view l.list.items ≡ map digest_data (take l.lock l.fn.locks)
