use Rattle.std.proofs.Common.{Result, Err, refl, ap, sym, ◌∙◌}
use Rattle.command_input.specs.declared.refusal.Refusal.{Refusal}
use Rattle.outcome_rules.specs.declared.report.Report.{Report}
use Rattle.party_judge.specs.declared.reason.JudgeReason.{JudgeReason}
use Rattle.party_judge.specs.declared.reason.JudgeReason.TheVariants.{Refused}
use Rattle.swap_rules.specs.Findings.{findings}
use Rattle.outcome_rules.specs.Report.{is_conforming_party}
use Rattle.outcome_rules.proofs.Promises as laws
use Rattle.audit_command.proofs.Reported.{report_is}
use Rattle.party_judge.proofs.Promises.{judged_is, judged_bad, report_weighed}
use Rattle.party_judge.proofs.judging.judged.Goals as goal

pub returns-in-Ok-clause-exact : goal.returns-in-Ok-clause-exact
returns-in-Ok-clause-exact c = judged_is c.args.job.now c.args.book.now.histories _ c.in-Ok.ensures.exact

pub returns-in-Ok-clause-sound : goal.returns-in-Ok-clause-sound
returns-in-Ok-clause-sound c =
    let k = c.in-Ok.ensures in
    let d = c.args.job.now.deal in
    let conforming = c.args.job.now.conforming in
    let b = c.args.book.now.histories in
    let accepted = c.requires.told.accepted in
    record {
      report = report_is _ _ _ _ k.exact;
      accepted = accepted;
      legal = k.legal;
      units = k.units;
      safe = k.safe;
      gains = k.gains;
      refunds = k.refunds;
      paid = k.paid;
      lossless = k.lossless;
      watchful = laws.watchful_are_whole d conforming b (findings d (is_conforming_party conforming) b) k.legal refl accepted;
      unpublished = laws.unpublished_lose_nothing d conforming b (findings d (is_conforming_party conforming) b) k.legal refl accepted;
      transfer = k.transfer accepted;
      whole = k.whole;
      nothing = k.nothing_found;
    }

pub returns-in-Ok-clause-weighed : goal.returns-in-Ok-clause-weighed
returns-in-Ok-clause-weighed c =
    report_weighed c.args.job.now.deal c.args.job.now.conforming c.args.book.now.histories _ (report_is _ _ _ _ c.in-Ok.ensures.exact) c.requires.told.accepted
    c.in-Ok.ensures.legal

pub returns-in-Err-Refused-clause-exact : goal.returns-in-Err-Refused-clause-exact
returns-in-Err-Refused-clause-exact c =
    judged_bad c.args.job.now c.args.book.now.histories _ (rw c.in-Err-Refused.field-0-is at c.in-Err-Refused.ensures.exact)
    ∙ ap (λ (x : Refusal). let r : Result Report JudgeReason = Err (Refused x) in r) (sym c.nameless.ensures)
