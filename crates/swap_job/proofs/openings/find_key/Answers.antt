use Rattle.std.proofs.Common.{sym, ◌∙◌}
use Rattle.std.specs.Option.{option_copied}
use Rattle.ledger_core.proofs.FirstAnswer.{found_mapped, none_mapped}
use Rattle.ledger_core.proofs.Contracts.{is_some-map}
use Rattle.swap_job.specs.MoveKeys.{item_opening}
use Rattle.swap_job.proofs.openings.find_key.Goals as goal

pub returns-then-is_some : goal.returns-then-is_some
returns-then-is_some c =
    found_mapped (λ o. o.key) (item_opening c.args.lock) c.args.items.now c.loop-item.item-index c.item-item.result (option_copied c.key_of_item-found.result)
    c.loop-item-test.true c.item-item.is c.loop-item.invariant c.key_of_item-found.ensures
    (is_some-map _ c.key_of_item-found.result ∙ (sym c.is_some.ensures ∙ c.if-is_some.true))

pub loop-item-preserved : goal.loop-item-preserved
loop-item-preserved c =
    none_mapped (λ o. o.key) (item_opening c.args.lock) c.args.items.now c.loop-item.item-index c.item-item.result (option_copied c.key_of_item-found.result)
    c.loop-item-test.true c.item-item.is c.loop-item.invariant c.key_of_item-found.ensures
    (is_some-map _ c.key_of_item-found.result ∙ (sym c.is_some.ensures ∙ c.if-is_some.false))
