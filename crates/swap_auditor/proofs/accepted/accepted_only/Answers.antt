use Rattle.std.proofs.Common.{sym, subst, arith}
use Rattle.std.proofs.lemmas.Grind.{common_steps}
use Rattle.ledger_core.specs.Book.{IsLegalBook}
use Rattle.swap_auditor.specs.Accepted.{HoldTheSame}
use Rattle.swap_auditor.proofs.OnlyAccepted.{is_legal_still, holds_the_same}
use Rattle.swap_auditor.proofs.accepted.accepted_only.Goals as goal

pub returns-clause-exact : goal.returns-clause-exact
returns-clause-exact c = grind (arith, common_steps)

pub returns-clause-legal : goal.returns-clause-legal
returns-clause-legal c =
    subst (IsLegalBook c.args.deal.now) (sym (returns-clause-exact c)) (is_legal_still c.args.deal.now c.args.book.now.histories c.requires.legal)

pub returns-clause-same : goal.returns-clause-same
returns-clause-same c =
    subst (HoldTheSame c.args.deal.now c.args.book.now.histories) (sym (returns-clause-exact c))
    (holds_the_same c.args.deal.now c.args.book.now.histories c.requires.legal)
