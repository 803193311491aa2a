use Rattle.std.proofs.Common.{option_copied, sym, ap, ◌∙◌}
use Rattle.swap_base.specs.Lists.{greatest}
use Rattle.swap_digraph.specs.Graph.{leaving}
use Rattle.ledger_core.specs.Book.{history}
use Rattle.history_index.specs.Indexes.{all_entries}
use Rattle.swap_rules.specs.Late.{unlock_base}
use Rattle.conduct_check.specs.Overdue.{greatest_index_use}
use Rattle.conduct_check.proofs.Base.{base_with}
use Rattle.conduct_check.proofs.bases.unlock_base.Goals as goal

pub returns-in-Hashkeys : goal.returns-in-Hashkeys
returns-in-Hashkeys c =
    let d = c.args.deal.now in
    let b = all_entries c.args.known.now in
    let first = option_copied c.args.first in
    c.base_by_key.ensures
    ∙ ap (λ seen. greatest (λ a. greatest_index_use c.args.party first seen (history b a)) (leaving d.graph c.args.party)) c.first_seen_key-seen.ensures
    ∙ sym (base_with d b c.args.party c.args.lock first)
    ∙ ap (λ m. unlock_base m d b c.args.party c.args.lock first) (sym c.in-Hashkeys.is)
