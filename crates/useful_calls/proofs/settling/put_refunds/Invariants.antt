use Rattle.std.proofs.Common.{◌≡◌, ◌++◌, take}
use Rattle.std.specs.List.{flat_map}
use Rattle.ledger_core.specs.declared.entry.Call.TheVariants.{Refund}
use Rattle.swap_rules.specs.Due.{is_due_refund, when_due}
use Rattle.useful_calls.specs.Actions.{actions}
use Rattle.useful_calls.specs.Asker.{known_entries}
use Rattle.useful_calls.proofs.settling.put_refunds.Given as goal

abbrev pub invariant-arcs : goal.invariant-arcs
invariant-arcs l =
    actions l.calls.items
    ≡ actions l.initial.calls.items ++ flat_map (λ a. when_due (is_due_refund l.asker.deal.now l.asker.me (known_entries l.asker) a) a Refund) (take l.arc-index l.arc-items)
