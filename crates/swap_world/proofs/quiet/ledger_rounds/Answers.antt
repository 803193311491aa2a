use Rattle.std.proofs.Common.{arith, sym, ap, ◌∙◌}
use Rattle.swap_rules.specs.Rest.{are_ticks}
use Rattle.party_machine.proofs.Resting.{are_all_ticks}
use Rattle.swap_world.proofs.quiet.ledger_rounds.Goals as goal

pub returns-in-None-clause-low : goal.returns-in-None-clause-low
returns-in-None-clause-low c = λ l. absurd (omega (arith, l))

pub returns-in-Some-clause-low : goal.returns-in-Some-clause-low
returns-in-Some-clause-low c = λ l. record {
  ticks = ap are_ticks (sym c.in-Some.ensures.ticks) ∙ are_all_ticks c.in-Some.field-0;
  low = rw (← c.height.ensures.value) (c.remaining_rounds.ensures.low l);
}
