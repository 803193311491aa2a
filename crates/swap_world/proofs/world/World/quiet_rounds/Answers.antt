use Rattle.std.proofs.Common.{◌≡◌, ◌<◌, ◌≤◌, ◌+◌, false, List, length, arith, subst}
use Rattle.swap_rules.proofs.Accepted.{accepted_is_well_sized}
use Rattle.ledger_core.specs.Value.{LedgerState}
use Rattle.ledger_core.specs.History.{height}
use Rattle.ledger_core.specs.Book.{history}
use Rattle.swap_run.specs.Asked.{Answers}
use Rattle.swap_run.specs.Fair.{is_above_horizon}
use Rattle.swap_run.specs.Steps.{IsSkipped}
use Rattle.swap_world.specs.Value.{WorldState, answering_cast}
use Rattle.swap_world.specs.Acting.{histories}
use Rattle.swap_world.specs.Inside.{inside_cast, inside_run_state}
use Rattle.swap_world.proofs.Idle.{skips}
use Rattle.swap_world.proofs.world.World.quiet_rounds.Goals as goal

pub deal_horizon-requires : goal.deal_horizon-requires
deal_horizon-requires c = accepted_is_well_sized c.self.inside.deal c.self.invariant.ready.accepted

pub returns-clause-skips : goal.returns-clause-skips
returns-clause-skips c =
    let i = c.self.inside in
    let ls = i.ledgers.items in
    let d = i.deal in
    let n = c.rest_rounds.result in
    let goes_on : i.stopped ≡ false = rw (← c.self.view_is) at c.requires.goes_on in
    let on : is_above_horizon d (histories ls) ≡ false = rw (← c.self.view_is) at c.requires.low in
    let less = c.rest_rounds.ensures.few in
    let below = subst (λ (ks : List LedgerState). 0 < c.horizon_rounds-low.result → 0 < length ks) c.deref.ensures.value c.horizon_rounds-low.ensures.some in
    let high = subst (λ (ks : List LedgerState). 0 < c.horizon_rounds-low.result
    → height (history (histories ks) 0) + c.horizon_rounds-low.result ≤ c.deal_horizon.result) c.deref.ensures.value c.horizon_rounds-low.ensures.low in
    let still = rw (← c.self.view_is) at c.rest_rounds.ensures.still in
    subst (λ (w : WorldState). (a : Answers) → IsSkipped (answering_cast w a) n w.state) c.self.view_is (λ a.
    skips (inside_cast i) n (inside_run_state i) a c.self.invariant.ready (c.self.invariant.good goes_on) on
    (λ more. subst (λ z. 0 < z) c.self.invariant.ledgers.one_each (below (omega (arith, more, less))))
    (λ more. let h = high (omega (arith, more, less)) in let z = c.deal_horizon.ensures in omega (arith, h, z, less)) still)
