use Rattle.std.proofs.Common.{◌≡◌, map}
use Rattle.serde_json.specs.View.{members_view}
use Rattle.offer_moves.specs.Fields.{first_unknown}
use Rattle.offer_moves.proofs.fields.first_unknown.Given as goal

abbrev pub invariant-loop-key : goal.invariant-loop-key
invariant-loop-key l = first_unknown (map (λ w. w.now) l.allowed) (members_view l.key-iterator) ≡ first_unknown (map (λ w. w.now) l.allowed)
    (members_view l.members.entries)
