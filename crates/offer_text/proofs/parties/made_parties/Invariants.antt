use Rattle.std.proofs.Common.{◌≡◌, map}
use Rattle.std.specs.List.{range_with_len}
use Rattle.serde_json.specs.View.{view}
use Rattle.offer_text.specs.HeaderLine.{made_party}
use Rattle.offer_text.proofs.parties.made_parties.Given as goal

abbrev pub invariant-loop-p : goal.invariant-loop-p
invariant-loop-p l = map view l.list.items ≡ map (made_party l.job) (range_with_len 0 l.p)
