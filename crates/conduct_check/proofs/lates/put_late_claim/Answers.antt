use Rattle.std.proofs.Common.{sym, ◌∙◌}
use Rattle.conduct_check.specs.Judged.{judged_book}
use Rattle.swap_rules.specs.declared.finding.Rule.TheVariants.{Claim}
use Rattle.conduct_check.proofs.AskedLate.{no_claim, claim_asked}
use Rattle.conduct_check.proofs.Lateness.{none_late}
use Rattle.conduct_check.proofs.lates.put_late_claim.Goals as goal

pub returns-then-not-enters : goal.returns-then-not-enters
returns-then-not-enters c =
    let j = c.args.judged.now in
    none_late j.deal.now (judged_book j) j.party Claim c.args.arc c.args.out.now.items (no_claim j.deal.now (judged_book j) j.party c.args.arc (sym c.enters.ensures ∙ c.if-not-enters.true))

pub put_late_arc-requires-clause-asked : goal.put_late_arc-requires-clause-asked
put_late_arc-requires-clause-asked c =
    let j = c.args.judged.now in
    claim_asked j.deal.now (judged_book j) j.party c.args.arc c.claim_start-from.result c.claim_start-from.ensures.exact (sym c.enters.ensures ∙ c.if-not-enters.false)
