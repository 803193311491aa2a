use Rattle.made_jobs.proofs.Writable.{made_is_writable, made_is_sayable, is_made}
use Rattle.made_jobs.proofs.plain.made_line.Goals as goal

pub put_header-requires-clause-writable : goal.put_header-requires-clause-writable
put_header-requires-clause-writable c =
    let m = c.in_ok-made in made_is_writable c.args.job.now m.made m.ensures.exact m.ensures.accepted c.requires.whole c.requires.known

pub put_header-requires-clause-sayable : goal.put_header-requires-clause-sayable
put_header-requires-clause-sayable c = made_is_sayable c.args.job.now c.in_ok-made.made c.in_ok-made.ensures.exact c.requires.whole c.requires.scripts

pub returns-clause-made : goal.returns-clause-made
returns-clause-made c =
    let m = c.in_ok-made in
    is_made c.args.job.now m.made m.ensures.exact m.ensures.accepted m.ensures.owned
