use Rattle.std.proofs.Common.{Err, refl, ap, sym, ◌∙◌}
use Rattle.swap_rules.specs.Findings.{findings}
use Rattle.outcome_rules.specs.Report.{is_conforming_party}
use Rattle.outcome_rules.proofs.Promises as laws
use Rattle.audit_command.specs.Output.{by_replies, judged}
use Rattle.audit_command.proofs.Reported.{report_is}
use Rattle.audit_command.proofs.judged.judge.Goals as goal

pub returns-in-Ok-clause-exact : goal.returns-in-Ok-clause-exact
unfolding judged
returns-in-Ok-clause-exact c = ap by_replies c.in-Ok.ensures.exact

pub returns-in-Ok-clause-sound : goal.returns-in-Ok-clause-sound
returns-in-Ok-clause-sound c =
    let k = c.in-Ok.ensures in
    let d = c.args.job.now.deal in
    let conforming = c.args.job.now.conforming in
    let b = c.args.book.now.histories in
    let accepted = c.requires.told.accepted in
    record {
      report = report_is _ _ _ _ k.exact;
      accepted = accepted;
      legal = k.legal;
      units = k.units;
      safe = k.safe;
      gains = k.gains;
      refunds = k.refunds;
      paid = k.paid;
      lossless = k.lossless;
      watchful = laws.watchful_are_whole d conforming b (findings d (is_conforming_party conforming) b) k.legal refl accepted;
      unpublished = laws.unpublished_lose_nothing d conforming b (findings d (is_conforming_party conforming) b) k.legal refl accepted;
      transfer = k.transfer accepted;
      whole = k.whole;
      nothing = k.nothing_found;
    }

pub returns-in-Err-Refused-clause-exact : goal.returns-in-Err-Refused-clause-exact
unfolding judged
returns-in-Err-Refused-clause-exact c = ap by_replies (rw c.in-Err-Refused.field-0-is at c.in-Err-Refused.ensures.exact) ∙ ap Err (sym c.refused_reply.ensures)
