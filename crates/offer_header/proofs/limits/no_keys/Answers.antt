use Rattle.std.proofs.Common.{◌∙◌, ◌++◌, ◌∷◌, [], List, ℕ, ap}
use Rattle.offer_header.specs.Limits.{no_digests}
use Rattle.offer_header.proofs.Listing.{one_more}
use Rattle.offer_header.proofs.limits.no_keys.Goals as goal

pub loop-party-preserved : goal.loop-party-preserved
loop-party-preserved c =
    one_more (λ p. no_digests c.args.leaders.now) c.args.parties.now c.loop-party._party-index c._party-item.result c.loop-party.rows.items
    c.push.new.self.items c.loop-party-test.true c._party-item.is c.loop-party.invariant
    (c.in_ok-push.ensures.items ∙ ap (λ (row : List (List ℕ)). c.loop-party.rows.items ++ row ∷ []) c.in_ok-no_digests.ensures)
