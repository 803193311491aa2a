use Rattle.std.proofs.Common.{◌≡◌, sym, ap, ◌∙◌, subst}
use Rattle.swap_digraph.specs.Deal.{party, counterparty}
use Rattle.ledger_shared.proofs.Passes.{first_number, second_number, party_closes, clock_closes}
use Rattle.ledger_shared.proofs.shared.SharedLedger.close.Goals as goal

pub close-ledger-requires-clause-first : goal.close-ledger-requires-clause-first
close-ledger-requires-clause-first c = (
  ap (λ s. s.lock) c.first.view_is ∙ (c.requires.first.0 ∙ sym (ap (λ s. s.lock) c.self.view_is)),
  first_number c.first.inside c.first.invariant (subst (λ s. s.party ≡ party s.deal s.arc) (sym c.first.view_is) c.requires.first.1),
  c.first.invariant.rests.idle,
)

pub close-ledger-requires-clause-second : goal.close-ledger-requires-clause-second
close-ledger-requires-clause-second c = (
  ap (λ s. s.lock) c.second.view_is ∙ (c.requires.second.0 ∙ sym (ap (λ s. s.lock) c.self.view_is)),
  second_number c.second.inside c.second.invariant (subst (λ s. s.party ≡ counterparty s.deal s.arc) (sym c.second.view_is) c.requires.second.1),
  c.second.invariant.rests.idle,
)

pub returns-clause-first : goal.returns-clause-first
returns-clause-first c = rw (← c.first.view_is) (party_closes c.first.inside c.first.invariant c.close-ledger.result.value c.close-ledger.ensures.first)

pub returns-clause-second : goal.returns-clause-second
returns-clause-second c = rw (← c.second.view_is) (party_closes c.second.inside c.second.invariant c.close-ledger.result.value c.close-ledger.ensures.second)

pub returns-clause-clock : goal.returns-clause-clock
returns-clause-clock c = rw (← c.clock.view_is) (clock_closes c.clock.inside c.clock.invariant c.close-ledger.result.value c.close-ledger.ensures.clock)
