use Rattle.std.proofs.Common.{◌≡◌, take, None}
use Rattle.swap_base.specs.Lists.{first_given_answer}
use Rattle.ledger_core.specs.History.{opening, accepted}
use Rattle.history_index.proofs.made.find_opened.Given as goal

abbrev pub invariant-loop-call : goal.invariant-loop-call
invariant-loop-call l = first_given_answer (λ m. opening l.lock m.entry.height (accepted m.entry)) (take l.call-index l.made) ≡ None
