use Rattle.std.proofs.Common.{◌≡◌, ◌&&◌, ◌++◌, take}
use Rattle.std.specs.List.{flat_map}
use Rattle.escrow_core.specs.Terms.{stated_terms}
use Rattle.ledger_core.specs.declared.entry.Call.TheVariants.{Publish}
use Rattle.swap_rules.specs.Due.{is_due_publish, when_due}
use Rattle.swap_rules.specs.Useful.{opens_in_time}
use Rattle.useful_calls.specs.Actions.{actions}
use Rattle.useful_calls.specs.Asker.{asker_at, known_entries}
use Rattle.useful_calls.proofs.publishes.put_publishes.Given as goal

abbrev pub invariant-arcs : goal.invariant-arcs
invariant-arcs l =
    actions l.calls.items
    ≡ actions l.initial.calls.items ++ flat_map (λ a.
    when_due (is_due_publish l.asker.deal.now l.asker.me (known_entries l.asker) a && opens_in_time l.asker.deal.now (asker_at l.asker) a) a (Publish (stated_terms l.asker.deal.now a)))
    (take l.arc-index l.arc-items)
