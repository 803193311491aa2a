use Rattle.std.proofs.Common.{ℕ, List, [], Bor}
use Rattle.std.proofs.lemmas.Result.{err_from_is_err_and}
use Rattle.swap_offer.proofs.Events.{counts_on, counts_end, count_is_done}
use Rattle.swap_offer.proofs.job.count_events.Goals as goal

-- what stands past the end of a list of lines
abbrev no_line : ℕ × Bor (List ℕ)
no_line = (0, record { ref_ptr = (0, 0); now = [] })

pub returns-in_err-count : goal.returns-in_err-count
returns-in_err-count c =
    let p = err_from_is_err_and c.from_residual.result c.from_residual.ensures.1 in
    rw (p.1, p.2) (counts_end (λ x. x.now) c.args.lines.now _ c.in_err-count.field-0.0 c.loop-line.line-index c.loop-line.count no_line c.loop-line-test.true
    c.in_err-count.ensures.exact c.loop-line.invariant.steps)

pub loop-line-preserved : goal.loop-line-preserved
loop-line-preserved c = record {
  steps = counts_on (λ x. x.now) c.args.lines.now _ c.loop-line.line-index c.loop-line.count c.in_ok-count.count no_line c.loop-line-test.true
      c.in_ok-count.ensures.exact c.loop-line.invariant.steps;
  few = c.in_ok-count.ensures.few;
}

pub returns : goal.returns
returns c = count_is_done (λ x. x.now) c.args.lines.now _ c.loop-line.line-index c.loop-line.count c.loop-line-test.false c.loop-line.invariant.steps
