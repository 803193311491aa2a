use Rattle.std.proofs.Common.{◌≡◌, take}
use Rattle.std.specs.List.{flat_map}
use Rattle.escrow_core.specs.Terms.{stated_terms}
use Rattle.ledger_core.specs.declared.entry.Call.TheVariants.{Publish}
use Rattle.history_index.specs.Indexes.{all_entries}
use Rattle.swap_rules.specs.Due.{when_due}
use Rattle.useful_calls.specs.Actions.{actions}
use Rattle.useful_calls.specs.Landing.{may_land}
use Rattle.useful_calls.proofs.landing.landing_publishes.Given as goal

abbrev pub invariant-arcs : goal.invariant-arcs
invariant-arcs l =
    actions l.calls.items
    ≡ flat_map (λ a. when_due (may_land l.sent l.me (all_entries l.known) a) a (Publish (stated_terms l.deal a))) (take l.arc-index l.arc-items)
