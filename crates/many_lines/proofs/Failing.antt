-- A reader of fields that fails still fails with the line.
use Rattle.std.proofs.Common.{◌≡◌, ℕ, Bool, true, false, List, Result, Ok, refl}
use Rattle.swap_base.specs.Fault.{Fails}
use Rattle.swap_base.specs.declared.fault.Fault.{Fault}
use Rattle.swap_base.specs.declared.fault.Fault.TheVariants.{Refused, NoMemory}
use Rattle.transcript_book.specs.declared.said.Misspelling.{Misspelling}
use Rattle.command_input.specs.declared.reason.Reason.{Reason}
use Rattle.command_input.specs.declared.refusal.Refusal.{Refusal}
use Rattle.command_input.specs.Refusal.{named_result}
use Rattle.swap_job.specs.declared.event.Event.{Event}
use Rattle.swap_job.specs.declared.job.Job.{Job}
use Rattle.swap_job.specs.declared.job.Purpose.TheVariants.{Run}
use Rattle.swap_offer.specs.Job.{parse_header_job, header_names}
use Rattle.many_lines.specs.Event.{IsEventRefusal, is_of_crash, with_reason}
use Rattle.many_lines.specs.Heading.{bad_many_line, by_field, by_fields, IsNamed, swap_job, without_finish}

pub fails : {A : Type 0} (line : ℕ) (fault : Fault Misspelling) (read : Result A Misspelling) → Fails fault read
    → Fails (by_field line fault) (by_fields line read)
fails line NoMemory read e = tt
fails line (Refused reason) read e = rw e refl

-- an event line fails with the names, unless it is of a crash
pub crash_is_bad : (line : ℕ) (names : List (List ℕ)) (fault : Fault Reason) → is_of_crash fault ≡ true
    → IsEventRefusal line names fault (Refused (bad_many_line line))
crash_is_bad line names NoMemory is = absurd (cc is)
crash_is_bad line names (Refused reason) is = rw is refl

pub named_stands : (line : ℕ) (names : List (List ℕ)) (fault : Fault Reason) (given : Fault Refusal) → is_of_crash fault ≡ false → IsNamed fault names given
    → IsEventRefusal line names fault given
named_stands line names fault NoMemory e is = tt
named_stands line names NoMemory (Refused x) e is = absurd (cc is)
named_stands line names (Refused reason) (Refused x) e is = rw e is

pub against_line : (line : ℕ) (names : List (List ℕ)) (fault : Fault Reason) (given : Fault Refusal) (read : Result Event Reason)
    → IsEventRefusal line names fault given → Fails fault read → Fails given (with_reason line names read)
against_line line names fault NoMemory read is e = tt
against_line line names NoMemory (Refused x) read is e = absurd (cc is)
against_line line names (Refused reason) (Refused x) read is e = rw e (cc is)

-- a header that states a finish, and one that states none
pub job_bad : (has : List ℕ → Bool) (line : ℕ) (text : List ℕ) (fault : Fault Refusal) (job : Job)
    → named_result (header_names has Run line text) (parse_header_job has Run line text) ≡ Ok job → Fails fault (without_finish line text)
    → Fails fault (swap_job has line text)
unfolding swap_job
job_bad has line text NoMemory job read e = tt
job_bad has line text (Refused reason) job read e = rw (read, e) refl

pub job_good : (has : List ℕ → Bool) (line : ℕ) (text : List ℕ) (job : Job)
    → named_result (header_names has Run line text) (parse_header_job has Run line text) ≡ Ok job → without_finish line text ≡ Ok tt → swap_job has line text ≡ Ok job
unfolding swap_job
job_good has line text job read e = rw (read, e) refl
