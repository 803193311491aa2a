use Rattle.std.proofs.Common.{ℕ, nat_lt, sym, ap, ◌∙◌}
use Rattle.std.specs.List.{list_all}
use Rattle.ledger_core.specs.History.{height}
use Rattle.history_index.specs.Indexes.{all_entries}
use Rattle.outcome_rules.proofs.Indexed.{above_in}
use Rattle.outcome_rules.proofs.report.has_ended.Goals as goal

pub returns : goal.returns
returns c =
    c.exceed_height.ensures ∙ sym (above_in c.horizon.result c.args.known.now)
    ∙ ap (λ (n : ℕ). list_all (λ h. nat_lt n (height h)) (all_entries c.args.known.now)) c.horizon.ensures
