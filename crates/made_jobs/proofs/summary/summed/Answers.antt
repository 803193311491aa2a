use Rattle.std.proofs.Common.{◌==◌, ap, not}
use Rattle.made_jobs.proofs.Summed.{found_is, summed_is}
use Rattle.made_jobs.proofs.summary.summed.Goals as goal

pub returns-clause-text : goal.returns-clause-text
returns-clause-text c =
    summed_is c.args.job.now c.args.events c.args.book.now.histories c.in_ok-report.report c.in_ok-text.text c.in_ok-report.ensures.exact
    (rw (c.as_slice-outcomes.ensures, c.len-count.ensures) at c.in_ok-text.ensures)

pub returns-clause-found : goal.returns-clause-found
returns-clause-found c =
    found_is c.args.job.now c.args.book.now.histories c.in_ok-report.report _ c.in_ok-report.ensures.exact (ap (λ k. not (k == 0)) c.len-count.ensures)
