use Rattle.std.proofs.Common.{refl, ap, ◌∙◌, ◌==◌, count_by}
use Rattle.ledger_core.specs.Book.{history}
use Rattle.history_index.specs.Indexes.{all_entries}
use Rattle.swap_rules.specs.Party.{pick_call}
use Rattle.swap_rules.specs.Conduct.{is_publish}
use Rattle.conduct_check.proofs.AskedConduct.{count_calls}
use Rattle.conduct_check.proofs.conduct.publishes_once.Goals as goal

pub returns : goal.returns
returns c =
    ap (λ n. n == 1)
    (c.count_publishes.ensures ∙ ap (count_by (λ m. is_publish (pick_call c.args.party m.entry))) c.made_calls.ensures
    ∙ count_calls is_publish c.args.party (history (all_entries c.args.known.now) c.args.arc) refl)
