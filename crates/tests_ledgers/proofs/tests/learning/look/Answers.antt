use Rattle.std.proofs.Common.{◌∙◌, ap, drop, length, List}
use Rattle.ledger_core.specs.declared.entry.Entry.{Entry}
use Rattle.ledger_core.specs.Book.{history}
use Rattle.party_machine.specs.Machine.{learnt}
use Rattle.tests_ledgers.proofs.Pieces.{all_learnt}
use Rattle.tests_ledgers.proofs.tests.learning.look.Goals as goal

pub returns : goal.returns
returns g c =
    let m = c.args.machine.now in
    let l = c.args.ledger.now in
    all_learnt m c.learn.new.self l c.in_ok-fresh.fresh c.args.steps.now c.learn.new.steps c.requires
    (c.in_ok-fresh.ensures
    ∙ ap (λ n. drop n l.history)
    (c.count.ensures
    ∙ ap (λ (h : List Entry). length h) (c.known.ensures.entries ∙ ap (λ a. history m.known a) c.arc-arc.ensures.value)))
    (c.in_ok-learn.ensures.ok ∙ ap (λ a. learnt m a c.in_ok-fresh.fresh) c.arc-arc.ensures.value)
    c.in_ok-learn.ensures.steps
