use Rattle.std.proofs.Common.{◌≡◌, ◌&&◌, ◌++◌, Some, not, take}
use Rattle.std.specs.List.{flat_map}
use Rattle.ledger_core.specs.declared.entry.Call.TheVariants.{Unlock}
use Rattle.swap_rules.specs.Due.{when_due}
use Rattle.swap_rules.specs.Useful.{takes}
use Rattle.useful_calls.specs.Actions.{actions}
use Rattle.useful_calls.specs.Asker.{asker_at, has_unlocked, known_entries}
use Rattle.useful_calls.proofs.unlocks.put_key_unlocks.Given as goal

abbrev pub invariant-arcs : goal.invariant-arcs
invariant-arcs l =
    actions l.calls.items
    ≡ actions l.initial.calls.items
    ++ flat_map (λ a. when_due (takes l.asker.deal.now (asker_at l.asker) (known_entries l.asker) l.lock (Some l.key) a && not (has_unlocked l.asker l.lock a)) a (Unlock l.key))
    (take l.arc-index l.arc-items)
