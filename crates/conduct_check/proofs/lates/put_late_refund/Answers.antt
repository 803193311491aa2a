use Rattle.std.proofs.Common.{sym, ◌∙◌}
use Rattle.conduct_check.specs.Judged.{judged_book}
use Rattle.swap_rules.specs.declared.finding.Rule.TheVariants.{Refund}
use Rattle.conduct_check.proofs.AskedLate.{no_refund, refund_asked}
use Rattle.conduct_check.proofs.Lateness.{none_late}
use Rattle.conduct_check.proofs.lates.put_late_refund.Goals as goal

pub returns-then-not-leaves : goal.returns-then-not-leaves
returns-then-not-leaves c =
    let j = c.args.judged.now in
    none_late j.deal.now (judged_book j) j.party Refund c.args.arc c.args.out.now.items (no_refund j.deal.now (judged_book j) j.party c.args.arc (sym c.leaves.ensures ∙ c.if-not-leaves.true))

pub put_late_arc-requires-clause-asked : goal.put_late_arc-requires-clause-asked
put_late_arc-requires-clause-asked c =
    let j = c.args.judged.now in
    refund_asked j.deal.now (judged_book j) j.party c.args.arc c.least_expiry-least.result c.refund_start-from.result c.least_expiry-least.ensures.exact
    c.refund_start-from.ensures.exact (sym c.leaves.ensures ∙ c.if-not-leaves.false)
