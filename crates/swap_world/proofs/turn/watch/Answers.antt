use Rattle.std.proofs.Common.{◌≡◌, ℕ, List, ◌++◌, length, drop, ap, ◌∙◌}
use Rattle.ledger_core.specs.declared.entry.Entry.{Entry}
use Rattle.ledger_core.specs.Book.{history}
use Rattle.swap_run.specs.Run.{plan_with_ledger}
use Rattle.swap_world.proofs.WholeHistory.{whole}
use Rattle.swap_world.proofs.Ledgers.{on_ok}
use Rattle.swap_world.proofs.turn.watch.Goals as goal

pub returns-clause-ok : goal.returns-clause-ok
returns-clause-ok c =
    let n = c.args.planner.now in
    let a = c.args.arc in
    let h : List Entry = c.args.ledger.now.history in
    let known : List Entry = history n.known a in
    let fresh : c.in_ok-fresh.fresh ≡ drop (length known) h = c.in_ok-fresh.ensures ∙ ap (λ (k : ℕ). drop k h) c.count.ensures in
    on_ok c.learn.result (λ e. e ∙ ap (λ (x : List Entry). plan_with_ledger n a x) (ap (λ (x : List Entry). known ++ x) fresh ∙ whole known h c.requires.begins))
    c.learn.ensures.ok
