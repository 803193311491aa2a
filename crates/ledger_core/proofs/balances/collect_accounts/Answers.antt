use Rattle.std.proofs.Common.{ap, ◌∙◌}
use Rattle.ledger_core.specs.History.{accepted, moved}
use Rattle.ledger_core.proofs.Funds.{funds_at, bounded_at, accounts_one, accounts_run}
use Rattle.ledger_core.proofs.balances.collect_accounts.Goals as goal
use Rattle.ledger_core.proofs.balances.collect_accounts.Goals.{in-One, in-Ticks}

pub next_accounts-accounts-requires-clause-funds : goal.next_accounts-accounts-requires-clause-funds
next_accounts-accounts-requires-clause-funds c =
    let l = c.loop-item in
    rw c.deref.ensures
    (funds_at c.args.deal.now c.args.arc c.args.items.now l.item-index c.item-item.result c.in-One.entry l.accounts c.loop-item-test.true
    c.item-item.is c.in-One.is c.requires.legal l.invariant)

pub next_accounts-accounts-requires-clause-bound : goal.next_accounts-accounts-requires-clause-bound
next_accounts-accounts-requires-clause-bound c =
    let l = c.loop-item in
    bounded_at c.args.deal.now c.args.arc c.args.items.now l.item-index c.item-item.result l.accounts c.loop-item-test.true c.item-item.is
    c.requires.legal c.requires.sized c.requires.arc l.invariant

pub loop-item-preserved : goal.loop-item-preserved
loop-item-preserved c =
    let d = c.args.deal.now in
    let l = c.loop-item in
    elim c.match-item.branch [
      | in-One w ↦ w.accounts-is ∙ (w.next_accounts-accounts.ensures
          ∙ ap (λ e. moved d c.args.arc l.accounts e.sender (accepted e)) w.deref.ensures
          ∙ accounts_one d c.args.arc c.args.items.now l.item-index c.item-item.result w.in-One.entry l.accounts c.loop-item-test.true c.item-item.is
          w.in-One.is l.invariant)
      | in-Ticks w ↦ w.accounts-is
          ∙ accounts_run d c.args.arc c.args.items.now l.item-index c.item-item.result w.in-Ticks.field-0 l.accounts c.loop-item-test.true
          c.item-item.is w.in-Ticks.is l.invariant
    ]
