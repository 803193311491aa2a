-- What an audit says, by how its parts ended.
use Rattle.std.proofs.Common.{◌≡◌, inl, inr, ℕ, List, Option, Result, Ok, Err, refl, ap, ◌∙◌, arith}
use Rattle.std.proofs.KnownBytes.{Keeps-refl}
use Rattle.swap_io.specs.Tape.{Tape}
use Rattle.swap_base.specs.Fault.{◌>>=◌}
use Rattle.command_input.specs.declared.refusal.Refusal.{Refusal}
use Rattle.outcome_rules.specs.declared.report.Report.{Report}
use Rattle.ledger_core.specs.WellFormed.{IsWellFormed}
use Rattle.audit_command.specs.declared.reason.TranscriptReason.{TranscriptReason}
use Rattle.audit_command.specs.Header.{header_read, IsTranscriptJob}
use Rattle.audit_command.specs.TranscriptReading.{Story}
use Rattle.audit_command.proofs.Whole.{text_is_whole}
use Rattle.command_input.specs.declared.fault.InputFault.{InputFault}
use Rattle.command_input.specs.declared.fault.InputFault.TheVariants as stopped
use Rattle.command_input.specs.declared.status.Status.{Status}
use Rattle.command_input.specs.declared.status.Status.TheVariants.{Done, Named, WrongWords, Refused, ReadFault, WriteFault, NoMemory, TooLong}
use Rattle.command_input.specs.Faults.{unread}
use Rattle.command_input.specs.Input.{InputProgress, Ends, HasStopped, desk, fresh}
use Rattle.command_input.specs.Streams.{streams}
use Rattle.audit_command.proofs.Ends.{is_consumed, too_long}
use Rattle.command_input.specs.Written.{StatusWrites, Written}
use Rattle.audit_command.specs.Output.{audit_output, by_text, judged, story_output, input_story, written_story}
use Rattle.audit_command.specs.Promised.{IsSoundAudit}
use Rattle.audit_command.specs.Reading.{IsStoryRefusal, IsStory}
use Rattle.audit_command.specs.Says.{HasAuditAnswer, HasAuditOutput, AuditSays}

-- an answer to an input that was read
answered : (P : List ℕ → Type 0) (a b : Tape) (n m : ℕ) (now : InputProgress) (output : Result Written Refusal)
    (k : Ends P (desk a n fresh) (desk b m now)) → audit_output k.bytes ≡ output → HasAuditAnswer a b output
answered P a b n m now output k e = record {
  input = k.bytes;
  taken = k.stands.took.consumed;
  ended = k.ended;
  within = omega (arith, k.stands.took.counted, k.stands.fits.within);
  gives = e;
}

-- no story
refused_input : (input : List ℕ) (refusal : Refusal) → input_story input ≡ Err refusal → audit_output input ≡ Err refusal
unfolding audit_output
refused_input input refusal e = ap (λ (r : Result Story Refusal). r >>= written_story) e

pub says_unread : (a b : Tape) (n m : ℕ) (now : InputProgress) (taken : Option (List ℕ)) (p : ℕ) (f : InputFault Refusal)
    → HasStopped IsStoryRefusal (desk a n fresh) (desk b m now) f → AuditSays (streams a n taken p) (streams b m taken p) (unread f)
says_unread a b n m now taken p (stopped.Refused refusal) k =
    (answered (λ input. IsStoryRefusal input refusal) a b n m now (Err refusal) k (refused_input k.bytes refusal k.told), Keeps-refl taken)
says_unread a b n m now taken p stopped.ReadFault k = (k.0, Keeps-refl taken, is_consumed a b n m now k.1)
says_unread a b n m now taken p stopped.TooLong k = (too_long a b n m now k.1, Keeps-refl taken)
says_unread a b n m now taken p stopped.NoMemory k = inl (Keeps-refl taken, is_consumed a b n m now k.1)

-- a story
module _ (a b : Tape) (n m : ℕ) (now : InputProgress) (t : Story) (k : Ends (IsStory t) (desk a n fresh) (desk b m now)) where
  -- what is read is well formed
  pub is_formed : IsWellFormed t.job.deal t.book
  is_formed = (text_is_whole header_read k.bytes t k.told).whole.stated.formed

  of_story : audit_output k.bytes ≡ written_story t
  unfolding audit_output input_story
  of_story = ap (λ (r : Result Story TranscriptReason). by_text r >>= written_story) k.told

  pub says_refused : (taken : Option (List ℕ)) (p : ℕ) (refusal : Refusal) → judged t ≡ Err refusal
      → AuditSays (streams a n taken p) (streams b m taken p) (Refused refusal.reason refusal.names)
  unfolding written_story
  says_refused taken p refusal e = (
    answered (IsStory t) a b n m now (Err refusal) k
        (of_story ∙ ap (λ (r : Result Report Refusal). r >>= λ x. Ok (story_output t x)) e),
    Keeps-refl taken,
  )

  output_is : (P : Written → Type 0) (r : Report) → IsTranscriptJob t.job → judged t ≡ Ok r → IsSoundAudit t r → P (story_output t r) → HasAuditOutput P a b
  unfolding written_story answered
  output_is P r job e sound w = record {
    output = story_output t r;
    read = answered (IsStory t) a b n m now (Ok (story_output t r)) k
        (of_story ∙ ap (λ (x : Result Report Refusal). x >>= λ y. Ok (story_output t y)) e);
    promised = record {
      story = t;
      read = k.told;
      whole = text_is_whole header_read k.bytes t k.told;
      job = job;
      report = r;
      shown = refl;
      sound = sound;
    };
    written = w;
  }

  pub says_written : (taken taken' : Option (List ℕ)) (p q : ℕ) (r : Report) → IsTranscriptJob t.job → judged t ≡ Ok r → IsSoundAudit t r → (s : Status)
      → StatusWrites taken taken' p q (story_output t r) s → AuditSays (streams a n taken p) (streams b m taken' q) s
  says_written taken taken' p q r job e sound Done w = output_is _ r job e sound w
  says_written taken taken' p q r job e sound Named w = output_is _ r job e sound w
  says_written taken taken' p q r job e sound WrongWords w = absurd w
  says_written taken taken' p q r job e sound (Refused reason names) w = absurd w
  says_written taken taken' p q r job e sound ReadFault w = absurd w
  says_written taken taken' p q r job e sound WriteFault w = (w.0, output_is _ r job e sound w.1)
  says_written taken taken' p q r job e sound NoMemory w = inr (output_is _ r job e sound w)
  says_written taken taken' p q r job e sound TooLong w = absurd w
