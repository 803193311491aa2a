use Rattle.std.proofs.Common.{◌≡◌, ℕ, ◌<◌, false, List, length, slice_index_or, sym, ap, ◌∙◌, subst}
use Rattle.ledger_core.specs.Value.{LedgerState}
use Rattle.swap_run.specs.Fair.{adjacent_arcs}
use Rattle.swap_world.specs.Value.{WorldState, world_cast}
use Rattle.swap_world.specs.Acting.{histories}
use Rattle.swap_world.specs.Inside.{inside_questions}
use Rattle.swap_world.specs.Quiet.{IsCalmActor, IsReadyActor, IsQuietState}
use Rattle.swap_world.specs.Players.{Actor}
use Rattle.swap_world.proofs.Idle.{are_ready, rests}
use Rattle.swap_world.proofs.world.World.rest_rounds.Goals as goal

pub rounds-requires-clause-near : goal.rounds-requires-clause-near
rounds-requires-clause-near c = rw (← c.self.view_is) at c.requires.near

pub rounds-requires-clause-parties : goal.rounds-requires-clause-parties
rounds-requires-clause-parties c = ap (λ (xs : List Actor). length xs) c.deref-2.ensures.value ∙ c.self.invariant.actors.one_each

pub rounds-requires-clause-ready : goal.rounds-requires-clause-ready
rounds-requires-clause-ready c =
    let i = c.self.inside in
    let goes_on : i.stopped ≡ false = rw (← c.self.view_is) at c.requires.goes_on in
    let all = are_ready i.deal i.conforming i.seeds i.roles (inside_questions i) i.ledgers.items i.actors.items c.self.invariant.ready
    (c.self.invariant.good goes_on) c.self.invariant.ledgers c.self.invariant.actors in
    subst (λ (ls : List LedgerState). (v : ℕ) (x : Actor) → v < length c.deref-2.result.now
    → IsReadyActor (length ls) (histories ls) (adjacent_arcs i.deal v) (slice_index_or c.deref-2.result.now v x)) (sym c.deref.ensures.value)
    (subst (λ (xs : List Actor). (v : ℕ) (x : Actor) → v < length xs
    → IsReadyActor (length i.ledgers.items) (histories i.ledgers.items) (adjacent_arcs i.deal v) (slice_index_or xs v x)) (sym c.deref-2.ensures.value) all)

pub returns-clause-still : goal.returns-clause-still
returns-clause-still c =
    let i = c.self.inside in
    let ls = i.ledgers.items in
    let xs = i.actors.items in
    let d = i.deal in
    let n = c.rounds.result in
    let goes_on : i.stopped ≡ false = rw (← c.self.view_is) at c.requires.goes_on in
    let calm = subst (λ (ks : List LedgerState). 0 < n → (v : ℕ) (x : Actor) → v < length xs
    → IsCalmActor n (histories ks) (adjacent_arcs d v) (slice_index_or xs v x)) c.deref.ensures.value
    (subst (λ (ys : List Actor). 0 < n → (v : ℕ) (x : Actor) → v < length ys
    → IsCalmActor n (histories c.deref.result.now) (adjacent_arcs d v) (slice_index_or ys v x)) c.deref-2.ensures.value c.rounds.ensures.calm) in
    subst (λ (w : WorldState). 0 < n → IsQuietState (world_cast w) n w.state) c.self.view_is (λ more.
    rests d i.conforming i.seeds i.roles (inside_questions i) ls xs c.self.invariant.ready (c.self.invariant.good goes_on) n c.self.invariant.actors
    (calm more))
