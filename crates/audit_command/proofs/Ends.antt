-- How the reading of an input ended.
use Rattle.std.proofs.Common.{◌+◌, ℕ, List, Option, Result, Ok, Err, ap, ◌∙◌, arith}
use Rattle.std.specs.Prelude.{IfOk, IfErr}
use Rattle.swap_io.specs.Tape.{Tape}
use Rattle.swap_io.specs.Causes.{ConsumesAtMost, ConsumesSome}
use Rattle.ledger_core.specs.declared.entry.Book.{Book}
use Rattle.swap_job.specs.declared.job.Job.{Job}
use Rattle.command_input.specs.declared.refusal.Refusal.{Refusal}
use Rattle.audit_command.specs.declared.reason.TranscriptReason.{TranscriptReason}
use Rattle.audit_command.specs.Stages.{Progress}
use Rattle.audit_command.specs.TranscriptReading.{story_at_end, job_story}
use Rattle.command_input.specs.Faults.{retold}
use Rattle.command_input.specs.declared.fault.InputFault.{InputFault}
use Rattle.command_input.specs.declared.fault.InputFault.TheVariants.{Refused, ReadFault, TooLong, NoMemory}
use Rattle.command_input.specs.Input.{InputProgress, Desk, Ends, HasStopped, TookPart, IsTooLong, desk, fresh, limit}
use Rattle.command_input.proofs.Streams.{no_memory_after}
use Rattle.audit_command.specs.Output.{by_text, to_refusal, input_story}
use Rattle.audit_command.specs.Reading.{Concludes, IsStoryRefusal, IsBad, IsReadByReader, IsStory}

-- a part was read
pub is_consumed : (a b : Tape) (n m : ℕ) (now : InputProgress) → TookPart (desk a n fresh) (desk b m now) → ConsumesAtMost a b limit
is_consumed a b n m now t = (t.0.0, omega (arith, t.0.1.counted, t.1), t.0.1.consumed)

pub too_long : (a b : Tape) (n m : ℕ) (now : InputProgress) → IsTooLong (desk a n fresh) (desk b m now) → ConsumesSome a b (limit + 1)
too_long a b n m now t = (t.0.0, omega (arith, t.0.1.counted, t.1), t.0.1.consumed)

pub all_consumed : (P : List ℕ → Type 0) (a b : Tape) (n m : ℕ) (now : InputProgress) → Ends P (desk a n fresh) (desk b m now) → ConsumesAtMost a b limit
all_consumed P a b n m now k = (k.bytes, omega (arith, k.stands.took.counted, k.stands.fits.within), k.stands.took.consumed)

-- a reason as it is told
pub told_stopped : (old new : Desk) (f : InputFault TranscriptReason) → HasStopped IsBad old new f → HasStopped IsStoryRefusal old new (retold to_refusal f)
unfolding input_story
told_stopped old new (Refused reason) h = record { bytes = h.bytes; stands = h.stands; can = h.can; told = ap by_text h.told; ended = h.ended }
told_stopped old new ReadFault h = h
told_stopped old new TooLong h = h
told_stopped old new NoMemory h = h

-- ---- the end was met

module _ (first now : Desk) (p : Progress) (rest : List ℕ) (k : Ends (IsReadByReader p rest) first now) where
  pub concluded_ok : (r : Result (Job × Book) (InputFault Refusal)) → Concludes r (story_at_end p rest) → IfOk r (λ x. Ends (IsStory (job_story x)) first now)
  concluded_ok (Ok x) e = record { bytes = k.bytes; stands = k.stands; can = k.can; told = k.told ∙ e; ended = k.ended }
  concluded_ok (Err f) e = tt

  pub concluded_err : (r : Result (Job × Book) (InputFault Refusal)) → Concludes r (story_at_end p rest) → IfErr r (HasStopped IsStoryRefusal first now)
  unfolding input_story
  concluded_err (Ok x) e = tt
  concluded_err (Err (Refused refusal)) e = record { bytes = k.bytes; stands = k.stands; can = k.can; told = ap by_text k.told ∙ e; ended = k.ended }
  concluded_err (Err ReadFault) e = absurd e
  concluded_err (Err TooLong) e = absurd e
  concluded_err (Err NoMemory) e = no_memory_after first now k.bytes k.stands
