use Rattle.made_jobs.proofs.Writable.{job_is_writable, job_is_sayable}
use Rattle.made_jobs.proofs.generated.begin.Goals as goal

pub put_header-requires-clause-writable : goal.put_header-requires-clause-writable
put_header-requires-clause-writable c =
    let g = c.in_ok-generator in
    job_is_writable c.job-2.result.now c.args.seed c.args.parties (rw g.ensures at c.job-2.ensures.exact) c.requires.high c.job-2.ensures.accepted

pub put_header-requires-clause-sayable : goal.put_header-requires-clause-sayable
put_header-requires-clause-sayable c =
    let g = c.in_ok-generator in
    job_is_sayable c.job-2.result.now c.args.seed c.args.parties (rw g.ensures at c.job-2.ensures.exact)
