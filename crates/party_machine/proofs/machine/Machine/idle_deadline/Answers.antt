use Rattle.std.proofs.Common.{◌≡◌, ◌∙◌, ℕ, Some, subst, sym}
use Rattle.swap_rules.specs.Rest.{rest_deadline}
use Rattle.party_machine.specs.Machine.{MachineState}
use Rattle.party_machine.specs.Rest.{rest_end_height, IsAtRest}
use Rattle.party_machine.proofs.Resting.{least_late, rests_late, shown}
use Rattle.party_machine.proofs.machine.Machine.idle_deadline.Goals as goal

pub returns-in-Until-clause-at_rest : goal.returns-in-Until-clause-at_rest
returns-in-Until-clause-at_rest c =
    let i = c.self.inside in
    let s = shown i.deal i.wallet i.known.items in
    subst (λ (t : ℕ). IsAtRest (Some t) c.args.self.now) (sym c.rest_end_height.ensures)
    (subst (IsAtRest (Some (rest_end_height c.in-Until.until))) c.self.view_is (rests_late i.rest c.in-Until.until s c.in-Until.is c.self.invariant.rests))

pub returns-in-Until-clause-height : goal.returns-in-Until-clause-height
returns-in-Until-clause-height c =
    let i = c.self.inside in
    let s = shown i.deal i.wallet i.known.items in
    c.rest_end_height.ensures
    ∙ subst (λ (m : MachineState). rest_end_height c.in-Until.until ≡ rest_end_height (rest_deadline m.deal m.me m.known)) c.self.view_is
    (least_late i.rest c.in-Until.until s c.in-Until.is c.self.invariant.rests)
