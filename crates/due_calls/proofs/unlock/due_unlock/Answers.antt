use Rattle.std.proofs.Common.{◌<◌, map, length, sym, ◌∙◌}
use Rattle.party_wallet.specs.Value.{signed_hashkey}
use Rattle.due_calls.specs.Unlocks.{IsSeenBase}
use Rattle.due_calls.proofs.Unlocking.{some, none, not_ready}
use Rattle.due_calls.proofs.Places.{IsPlaced, placed, some_more}
use Rattle.due_calls.proofs.unlock.due_unlock.Goals as goal

pub returns-clause-some : goal.returns-clause-some
returns-clause-some g c =
    some c.args.deal.now c.args.me (signed_hashkey c.args.signed.now.keys) (map g.F.Facts.entries c.args.known.now) c.first_unlock.result
    (sym c.is_ready.ensures ∙ c.if-not-is_ready.false) c.first_unlock.ensures

pub returns-clause-none : goal.returns-clause-none
returns-clause-none g c =
    none c.args.deal.now c.args.me (signed_hashkey c.args.signed.now.keys) (map g.F.Facts.entries c.args.known.now) c.first_unlock.result
    (sym c.is_ready.ensures ∙ c.if-not-is_ready.false) c.first_unlock.ensures

pub returns-clause-base : goal.returns-clause-base
returns-clause-base g c =
    let d = c.args.deal.now in
    let k = map g.F.Facts.entries c.args.known.now in
    some_more (IsPlaced d c.args.me k) (λ u. IsSeenBase d c.args.me k u.lock u.base) c.first_unlock.result (λ u p.
    p.base) (placed d c.args.me (signed_hashkey c.args.signed.now.keys) k c.first_unlock.result c.first_unlock.ensures)

pub returns-clause-arc : goal.returns-clause-arc
returns-clause-arc g c =
    let d = c.args.deal.now in
    let k = map g.F.Facts.entries c.args.known.now in
    some_more (IsPlaced d c.args.me k) (λ u. u.arc < length d.graph.arcs) c.first_unlock.result (λ u p.
    p.arc) (placed d c.args.me (signed_hashkey c.args.signed.now.keys) k c.first_unlock.result c.first_unlock.ensures)

pub returns-clause-lock : goal.returns-clause-lock
returns-clause-lock g c =
    let d = c.args.deal.now in
    let k = map g.F.Facts.entries c.args.known.now in
    some_more (IsPlaced d c.args.me k) (λ u. u.lock < length d.leaders) c.first_unlock.result (λ u p.
    p.lock) (placed d c.args.me (signed_hashkey c.args.signed.now.keys) k c.first_unlock.result c.first_unlock.ensures)

pub returns-then-not-is_ready-clause-none : goal.returns-then-not-is_ready-clause-none
returns-then-not-is_ready-clause-none g c =
    λ n w. not_ready c.args.deal.now c.args.me w (signed_hashkey c.args.signed.now.keys) (map g.F.Facts.entries c.args.known.now) (sym c.is_ready.ensures
    ∙ c.if-not-is_ready.true)
