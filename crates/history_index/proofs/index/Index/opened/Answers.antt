use Rattle.std.proofs.Common.{not, is_some, sym, ap, ◌∙◌}
use Rattle.swap_base.specs.Lists.{first_given_answer}
use Rattle.ledger_core.specs.History.{opening, accepted}
use Rattle.ledger_core.specs.Runs.{expand}
use Rattle.history_index.proofs.Calls.{opened_made, not_opened}
use Rattle.history_index.proofs.index.Index.opened.Goals as goal

pub returns-then-is_none : goal.returns-then-is_none
returns-then-is_none c =
    let kept = c.self.invariant.answers.unlocked c.args.lock in
    rw (← c.self.view_is)
    (sym (not_opened (expand c.self.inside.past.items) c.args.lock (ap is_some (sym kept) ∙ (c.is_none.ensures ∙ ap not c.if-is_none.true))))

pub returns : goal.returns
returns c =
    rw (← c.self.view_is)
    (c.find_opened.ensures
    ∙ (ap (first_given_answer (λ m. opening c.args.lock m.entry.height (accepted m.entry))) (c.deref.ensures.value ∙ c.self.invariant.made)
    ∙ sym (opened_made (expand c.self.inside.past.items) c.args.lock)))
