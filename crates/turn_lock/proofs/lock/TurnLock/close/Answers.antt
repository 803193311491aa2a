use Rattle.std.proofs.Common.{ap, ◌∙◌, ◌<◌, ◌≡◌, sym, subst, Some}
use Rattle.std.specs.List.{AllByRecursion}
use mathlib.Core.Option.{some-injective}
use Rattle.turn_lock.specs.SeatHistory.{Covers}
use Rattle.turn_lock.proofs.Keeps.{closes}
use Rattle.turn_lock.proofs.lock.TurnLock.close.Goals as goal

pub unreachable-requires : goal.unreachable-requires
unreachable-requires g c =
    let seats = c.self.invariant.1.0 ∙ ap (λ s. s.seats) c.self.view_is in
    let x = closes _ _ _ _ _ _ _ _ c.requires.idle.0 (subst (λ n. 0 < n) (sym c.self.invariant.1.0) c.self.invariant.1.1)
    (λ k below. c.requires.all k (subst (λ n. k < n) seats below)) c.close_with-closed.ensures.values.2 in
    c.in_default.not-Some x.0 (some-injective _ _ (sym c.take-slot.ensures.value ∙ x.1))

pub returns : goal.returns
returns g c =
    let seats = c.self.invariant.1.0 ∙ ap (λ s. s.seats) c.self.view_is in
    let x = closes _ _ _ _ _ _ _ _ c.requires.idle.0 (subst (λ n. 0 < n) (sym c.self.invariant.1.0) c.self.invariant.1.1)
    (λ k below. c.requires.all k (subst (λ n. k < n) seats below)) c.close_with-closed.ensures.values.2 in
    let is : Some x.0 ≡ Some c.in-Some.value = some-injective _ _ (sym x.1 ∙ c.take-slot.ensures.value) ∙ c.in-Some.is in
    let same : x.0 ≡ c.in-Some.value = cc in
    subst (λ v. AllByRecursion (Covers g.T.Journal.author (g.T.Journal.history v)) c.args.seat.me.0.parts) same x.2
