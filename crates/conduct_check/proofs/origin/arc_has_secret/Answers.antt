use Rattle.std.proofs.Common.{refl, ap, ◌∙◌}
use Rattle.std.specs.List.{list_any}
use Rattle.ledger_core.specs.Book.{history}
use Rattle.ledger_core.specs.History.{accepted}
use Rattle.history_index.specs.Indexes.{all_entries}
use Rattle.swap_rules.specs.Conduct.{carries}
use Rattle.conduct_check.proofs.AskedConduct.{any_accepted}
use Rattle.conduct_check.proofs.origin.arc_has_secret.Goals as goal

pub returns : goal.returns
returns c =
    c.has_secret.ensures ∙ ap (list_any (λ m. carries c.args.secret.now (accepted m.entry))) c.made_calls.ensures
    ∙ any_accepted (carries c.args.secret.now) (history (all_entries c.args.known.now) c.args.arc) refl
