use Rattle.std.proofs.Common.{◌≡◌, Option, Some, None, is_some, option_map, refl, sym, ◌∙◌}
use Rattle.ledger_core.specs.History.{opening, accepted}
use Rattle.ledger_core.proofs.FirstAnswer.{found_first, none_first}
use Rattle.history_index.specs.Made.{key_opening}
use Rattle.history_index.proofs.made.find_opened.Goals as goal

shown : {B C : Type 0} (g : C → B) (r : Option C) → is_some (option_map g r) ≡ is_some r
shown g None = refl
shown g (Some x) = refl

pub returns-then-is_some : goal.returns-then-is_some
returns-then-is_some c =
    found_first (λ m. opening c.args.lock m.entry.height (accepted m.entry)) c.args.made.now c.loop-call.call-index c.call-item.result
    (option_map key_opening c.opening-found.result)
    c.loop-call-test.true c.call-item.is c.loop-call.invariant c.opening-found.ensures (shown key_opening c.opening-found.result
    ∙ (sym c.is_some.ensures ∙ c.if-is_some.true))

pub loop-call-preserved : goal.loop-call-preserved
loop-call-preserved c =
    none_first (λ m. opening c.args.lock m.entry.height (accepted m.entry)) c.args.made.now c.loop-call.call-index c.call-item.result
    (option_map key_opening c.opening-found.result)
    c.loop-call-test.true c.call-item.is c.loop-call.invariant c.opening-found.ensures (shown key_opening c.opening-found.result
    ∙ (sym c.is_some.ensures ∙ c.if-is_some.false))
