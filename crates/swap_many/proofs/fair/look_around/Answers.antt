use Rattle.std.proofs.Common.{ℕ, List, slice_index, fold, take, sym, ap, ◌∙◌}
use Rattle.swap_run.specs.Fair.{adjacent_arcs}
use Rattle.swap_world.proofs.Idle.{any_default}
use Rattle.swap_many.specs.Chains.{Setup}
use Rattle.swap_many.specs.Kept.{Kept}
use Rattle.swap_many.specs.Fair.{kept_look, kept_looks}
use Rattle.swap_many.specs.Value.{made_setup, many_kept}
use Rattle.swap_many.proofs.Gone.{deal_gone, gone_as, list_done, list_on, list_stops, on_gone, party_gone, stopped_as}
use Rattle.swap_many.proofs.Turning.{look_leads, may_look}
use Rattle.swap_world.proofs.Ways.{if_err}
use Rattle.swap_many.proofs.fair.look_around.Goals as goal

pub happen-requires-clause-event : goal.happen-requires-clause-event
happen-requires-clause-event g c =
    let gives = g.A.Strategies.gives c.args.strategies.now in
    let w = c.args.worlds.now in
    let mid = c.arcs.worlds in
    let near = c.args.near.now in
    let k = c.arcs.arc-index in
    let f = λ (m : Setup) (z : Kept). fold (kept_look c.args.swap c.args.p m) z (take k near) in
    may_look mid c.args.swap c.args.p k (slice_index near k) near (party_gone gives f w mid c.args.swap c.args.p c.arcs.invariant c.requires.party)
    (c.requires.near ∙ ap (λ d. adjacent_arcs d c.args.p) (sym (deal_gone gives f w mid c.args.swap c.arcs.invariant))) c.arcs-test.true
    (any_default near k 0 (slice_index near k) c.arcs-test.true)

pub happen-requires-clause-held : goal.happen-requires-clause-held
happen-requires-clause-held g c =
    let gives = g.A.Strategies.gives c.args.strategies.now in
    let w = c.args.worlds.now in
    (on_gone gives (λ m z. fold (kept_look c.args.swap c.args.p m) z (take c.arcs.arc-index c.args.near.now)) w c.arcs.worlds _ c.arcs.invariant
    c.requires.on).held

pub happen-requires-clause-goes_on : goal.happen-requires-clause-goes_on
happen-requires-clause-goes_on g c = c.arcs.invariant.goes_on ∙ c.requires.on.goes_on

pub arcs-preserved : goal.arcs-preserved
arcs-preserved g c =
    let gives = g.A.Strategies.gives c.args.strategies.now in
    let near = c.args.near.now in
    let k = c.arcs.arc-index in
    list_on gives (kept_look c.args.swap c.args.p) c.args.worlds.now c.arcs.worlds c.happen.new.self near k (slice_index near k) c.arcs.invariant
    c.arcs-test.true (any_default near k 0 (slice_index near k) c.arcs-test.true) c.in_ok-happen.ensures.ok

pub returns-in_err-happen-clause-err : goal.returns-in_err-happen-clause-err
returns-in_err-happen-clause-err g c =
    let gives = g.A.Strategies.gives c.args.strategies.now in
    let w = c.args.worlds.now in
    let near = c.args.near.now in
    let k = c.arcs.arc-index in
    if_err _ (stopped_as gives (λ m z. fold (kept_look c.args.swap c.args.p m) z near) (kept_looks c.args.swap c.args.p) w c.happen.new.self
    (λ a. ap (λ (xs : List ℕ). fold (kept_look c.args.swap c.args.p (made_setup w a)) (many_kept w) xs) c.requires.near)
    (list_stops gives (kept_look c.args.swap c.args.p) w c.arcs.worlds c.happen.new.self near k (slice_index near k) c.arcs.invariant c.arcs-test.true
    (any_default near k 0 (slice_index near k) c.arcs-test.true) c.requires.on.ready
    (look_leads w c.requires.on.ready c.args.swap c.args.p near c.requires.party c.requires.near) c.in_err-happen.ensures.err))

pub returns-clause-ok : goal.returns-clause-ok
returns-clause-ok g c =
    let gives = g.A.Strategies.gives c.args.strategies.now in
    let w = c.args.worlds.now in
    let near = c.args.near.now in
    gone_as gives (λ m z. fold (kept_look c.args.swap c.args.p m) z near) (kept_looks c.args.swap c.args.p) w c.arcs.worlds
    (λ a. ap (λ (xs : List ℕ). fold (kept_look c.args.swap c.args.p (made_setup w a)) (many_kept w) xs) c.requires.near)
    (list_done gives (kept_look c.args.swap c.args.p) w c.arcs.worlds near c.arcs.arc-index c.arcs-test.false c.arcs.invariant)
