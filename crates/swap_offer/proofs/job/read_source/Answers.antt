use Rattle.std.proofs.Common.{◌≡◌, ◌∷◌, map, Result, Ok, refl}
use Rattle.swap_base.specs.Fault.{◌>>=◌, Fails}
use Rattle.swap_base.specs.declared.fault.Fault.{Fault}
use Rattle.swap_base.specs.declared.fault.Fault.TheVariants.{Refused, NoMemory}
use Rattle.command_input.specs.declared.reason.Reason.{Reason}
use Rattle.command_input.proofs.Named.{fails, named_ok}
use Rattle.offer_header.specs.Names.{has_strategy}
use Rattle.swap_offer.specs.Job.{parse_job_events, parse_header_job, header_names, job_of_lines}
use Rattle.swap_offer.proofs.job.read_source.Goals as goal

-- what fails makes all that goes on from it fail
fails_on : {A B : Type 0} (fault : Fault Reason) (read : Result A Reason) (f : A → Result B Reason) → Fails fault read → Fails fault (read >>= f)
fails_on NoMemory read f e = tt
fails_on (Refused reason) read f e = rw e refl

-- a job was read, and what goes on from it fails
fails_after : {A B : Type 0} (fault : Fault Reason) (read : Result A Reason) (x : A) (f : A → Result B Reason) → read ≡ Ok x → Fails fault (f x)
    → Fails fault (read >>= f)
fails_after fault read x f e bad = rw e bad

pub returns-in-Err-clause-exact : goal.returns-in-Err-clause-exact
returns-in-Err-clause-exact c =
    let lines = map (λ l. (l.0, l.1.now)) c.args.further.now in
    let has = has_strategy c.args.strategies.now in
    let read = parse_header_job has c.args.purpose c.args.line c.args.text.now in
    let job = c.in_ok-job.field-0.job in
    let was : read ≡ Ok job = named_ok (header_names has c.args.purpose c.args.line c.args.text.now) read job c.in_ok-job.ensures.exact in
    rw c.with_names.ensures
    (rw c.in_ok-job.ensures.names
    (fails (header_names has c.args.purpose c.args.line c.args.text.now) c.in-Err.fault (job_of_lines has c.args.purpose ((c.args.line, c.args.text.now) ∷ lines))
    (fails_after c.in-Err.fault read job (λ j. parse_job_events c.args.purpose j lines >>= λ events. Ok (j, events)) was
    (fails_on c.in-Err.fault (parse_job_events c.args.purpose job lines) (λ events. Ok (job, events)) c.in-Err.ensures.exact))))
