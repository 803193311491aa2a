use Rattle.std.proofs.Common.{sym, ◌∙◌}
use Rattle.conduct_check.specs.Judged.{judged_book}
use Rattle.swap_rules.specs.declared.finding.Rule.TheVariants.{Unlock}
use Rattle.conduct_check.proofs.AskedLate.{no_unlock, unlock_asked}
use Rattle.conduct_check.proofs.Lateness.{none_late}
use Rattle.conduct_check.proofs.lates.put_late_unlock.Goals as goal

pub returns-then-not-enters : goal.returns-then-not-enters
returns-then-not-enters c =
    let j = c.args.judged.now in
    none_late j.deal.now (judged_book j) j.party (Unlock c.args.lock) c.args.arc c.args.out.now.items
    (no_unlock j.deal.now (judged_book j) j.party c.args.arc c.args.lock (sym c.enters.ensures ∙ c.if-not-enters.true))

pub put_late_arc-requires-clause-asked : goal.put_late_arc-requires-clause-asked
put_late_arc-requires-clause-asked c =
    let j = c.args.judged.now in
    unlock_asked j.deal.now (judged_book j) j.party c.args.arc c.args.lock c.args.first c.args.from c.requires.first c.requires.from (sym c.enters.ensures
    ∙ c.if-not-enters.false)
