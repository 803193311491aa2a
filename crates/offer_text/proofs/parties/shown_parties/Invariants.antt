use Rattle.std.proofs.Common.{◌≡◌, map}
use Rattle.std.specs.List.{range_with_len}
use Rattle.serde_json.specs.View.{view}
use Rattle.offer_text.specs.HeaderLine.{shown_party}
use Rattle.offer_text.proofs.parties.shown_parties.Given as goal

abbrev pub invariant-loop-p : goal.invariant-loop-p
invariant-loop-p l = map view l.list.items ≡ map (shown_party l.job) (range_with_len 0 l.p)
