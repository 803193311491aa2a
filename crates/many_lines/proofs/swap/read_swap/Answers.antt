use Rattle.std.proofs.lemmas.Result.{err_from_is_err_and}
use Rattle.offer_header.specs.Names.{has_strategy}
use Rattle.many_lines.proofs.Failing.{job_bad, job_good}
use Rattle.many_lines.proofs.swap.read_swap.Goals as goal

pub returns-in_err-without_finish-clause-exact : goal.returns-in_err-without_finish-clause-exact
returns-in_err-without_finish-clause-exact c =
    let p = err_from_is_err_and c.from_residual-in_err-without_finish.result c.from_residual-in_err-without_finish.ensures.1 in
    rw (p.1, p.2) (job_bad (has_strategy c.args.strategies.now) c.args.line c.args.text.now
    c.in_err-without_finish.field-0.0 c.in_ok-prepared.prepared.job c.in_ok-prepared.ensures.exact c.in_err-without_finish.ensures)

pub returns-clause-exact : goal.returns-clause-exact
returns-clause-exact c = job_good (has_strategy c.args.strategies.now) c.args.line c.args.text.now
    c.in_ok-prepared.prepared.job c.in_ok-prepared.ensures.exact c.in_ok-without_finish.ensures
