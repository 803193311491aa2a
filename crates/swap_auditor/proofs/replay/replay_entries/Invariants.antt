use Rattle.std.proofs.Common.{◌≡◌, take, drop}
use Rattle.swap_base.specs.Fault.{steps}
use Rattle.ledger_core.specs.History.{IsLegal}
use Rattle.swap_auditor.specs.Audit.{replay, with_entry}
use Rattle.ledger_core.specs.WellFormed.{IsFormedContinuation}
use Rattle.swap_auditor.proofs.replay.replay_entries.Given as goal

abbrev pub invariant-loop-entry : goal.invariant-loop-entry
invariant-loop-entry l = record {
  so_far : steps (with_entry l.initial.ledger.deal l.initial.ledger.arc) l.ledger.history (drop l.entry-index l.entries)
      ≡ replay l.initial.ledger.deal l.initial.ledger.arc l.entries;
  past : l.ledger.history ≡ take l.entry-index l.entries;
  rest : IsFormedContinuation l.initial.ledger.deal l.initial.ledger.arc l.ledger.history (drop l.entry-index l.entries);
  deal : l.ledger.deal ≡ l.initial.ledger.deal;
  arc : l.ledger.arc ≡ l.initial.ledger.arc;
  legal : IsLegal l.ledger.deal l.ledger.arc l.ledger.history;
  of_the_deal : l.found ≡ l.initial.found;
}
