use Rattle.std.proofs.Common.{refl, ap, ◌∙◌}
use Rattle.std.specs.List.{list_any}
use Rattle.ledger_core.specs.Book.{history}
use Rattle.ledger_core.specs.History.{accepted}
use Rattle.history_index.specs.Indexes.{all_entries}
use Rattle.swap_rules.specs.Conduct.{extends_without_party}
use Rattle.conduct_check.proofs.AskedConduct.{any_accepted}
use Rattle.conduct_check.proofs.origin.arc_has_inner.Goals as goal

pub returns : goal.returns
returns c =
    c.has_inner.ensures ∙ ap (list_any (λ m. extends_without_party c.args.party c.args.key.now (accepted m.entry))) c.made_calls.ensures
    ∙ any_accepted (extends_without_party c.args.party c.args.key.now) (history (all_entries c.args.known.now) c.args.arc) refl
