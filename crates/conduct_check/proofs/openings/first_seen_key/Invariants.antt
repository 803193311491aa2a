use Rattle.std.proofs.Common.{◌≡◌, take, None}
use Rattle.swap_base.specs.Lists.{first_given_answer}
use Rattle.ledger_core.specs.Book.{history}
use Rattle.ledger_core.specs.History.{opened}
use Rattle.history_index.specs.Indexes.{all_entries}
use Rattle.swap_rules.specs.Party.{key_without_party}
use Rattle.conduct_check.proofs.openings.first_seen_key.Given as goal

abbrev pub invariant-loop-arc : goal.invariant-loop-arc
invariant-loop-arc l = first_given_answer (λ a. key_without_party l.party (opened (history (all_entries l.known) a) l.lock)) (take l.arc-index l.arc-items) ≡ None
