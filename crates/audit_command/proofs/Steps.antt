-- A reader that steps along the lines of a text.
use Rattle.std.proofs.Common.{◌≡◌, ◌+◌, ◌-◌, ◌≤◌, ◌<◌, ℕ, false, List, [], ◌∷◌, length, take, drop, Result, Ok, Err, refl, sym, ap, ◌∙◌, arith}
use Rattle.std.proofs.lemmas.List.{length-drop}
use Rattle.memchr.specs.Find.{NoneBefore, Nowhere, Passes, is_byte}
use Rattle.std.specs.Prelude.{IfOk}
use Rattle.swap_base.specs.Fault.{Gives}
use Rattle.swap_base.specs.declared.fault.Fault.{Fault}
use Rattle.swap_base.specs.declared.fault.Fault.TheVariants.{Refused, NoMemory}
use Rattle.ledger_core.specs.declared.entry.Book.{Book}
use Rattle.swap_job.specs.declared.job.Job.{Job}
use Rattle.command_input.specs.declared.refusal.Refusal.{Refusal}
use Rattle.transcript_book.specs.Between.{separated_parts}
use Rattle.transcript_book.proofs.Falls.{next_found, next_none}
use Rattle.transcript_book.proofs.Exact.{parts_some}
use Rattle.audit_command.specs.declared.reason.TranscriptReason.{TranscriptReason}
use Rattle.audit_command.specs.declared.stage.Stage.{Stage}
use Rattle.audit_command.specs.declared.stage.Stage.TheVariants.{First, Header, Ledgers, Bad}
use Rattle.audit_command.specs.Stages.{Progress, no_lines, with_line}
use Rattle.audit_command.specs.TranscriptReading.{ReadsTranscriptLine, story_at_end, parts_read, so_far, job_story, transcript_read}
use Rattle.audit_command.specs.Laws.{IsWholeText}
use Rattle.audit_command.proofs.Whole.{at_stage, bad_stands, text_is_whole}

module _ (header : List ℕ → Result Job Refusal) where
  -- a line, and then those after it
  line_first : (p : Progress) (line : List ℕ) (ps : List (List ℕ)) → 0 < length ps
      → parts_read header p (line ∷ ps) ≡ parts_read header (with_line header p line) ps
  line_first p line [] some = absurd (omega arith)
  line_first p line (next ∷ ps) some = refl

  -- a line that a line feed ends, and the bytes after it
  pub line_on : (p : Progress) (line rest : List ℕ) (bytes : List ℕ) → separated_parts 10 bytes ≡ line ∷ separated_parts 10 rest
      → parts_read header p (separated_parts 10 bytes) ≡ parts_read header (with_line header p line) (separated_parts 10 rest)
  line_on p line rest bytes is = ap (parts_read header p) is ∙ line_first p line (separated_parts 10 rest) (parts_some 10 rest)

  stage_bad : (s : Stage) (n m : ℕ) (reason : TranscriptReason) (ps : List (List ℕ)) → so_far s ≡ Err reason
      → parts_read header (at_stage s n m) ps ≡ Err reason
  stage_bad First n m reason ps e = absurd (cc e)
  stage_bad Header n m reason ps e = absurd (cc e)
  stage_bad (Ledgers s) n m reason ps e = absurd (cc e)
  stage_bad (Bad other) n m reason ps e = bad_stands header other n m ps ∙ ap (λ (r : TranscriptReason). Err r) (same other reason e)
    where
      same : (x y : TranscriptReason) → ◌≡◌ {A = Result (Unit {0}) TranscriptReason} (Err x) (Err y) → x ≡ y
      same x y q = cc

  -- a bad line is what is told at the end, whatever comes after it
  pub bad_reads : (p : Progress) (reason : TranscriptReason) (ps : List (List ℕ)) → so_far p.stage ≡ Err reason → parts_read header p ps ≡ Err reason
  bad_reads p reason ps e = stage_bad p.stage p.lines p.bytes reason ps e

  -- Text that was read up to a place: what is told of the whole is what is told from there on.
  pub record IsLed (bytes : List ℕ) (at : ℕ) (p : Progress) : Type 0 where
    pub within : at ≤ length bytes
    pub led : transcript_read header bytes ≡ parts_read header p (separated_parts 10 (drop at bytes))

  pub led_first : (bytes : List ℕ) → IsLed bytes 0 no_lines
  unfolding transcript_read
  led_first bytes = record { within = omega arith; led = refl }

  -- the next line
  next_parts : (bytes : List ℕ) (at end : ℕ) (rest : List ℕ) → rest ≡ drop at bytes → NoneBefore (Passes (is_byte 10) rest) 0 (length rest) end
      → Passes (is_byte 10) rest end → separated_parts 10 (drop at bytes) ≡ take end rest ∷ separated_parts 10 (drop (at + (end + 1)) bytes)
  next_parts bytes at end rest is before here = next_found 10 at end bytes rest false refl is before here

  -- the line as a slice of the text
  line_is : (bytes : List ℕ) (at end n : ℕ) (rest : List ℕ) → rest ≡ drop at bytes → n ≡ end → take n (drop at bytes) ≡ take end rest
  line_is bytes at end n rest is same = ap (λ m. take m (drop at bytes)) same ∙ ap (take end) (sym is)

  pub led_on : (bytes : List ℕ) (at end n : ℕ) (p q : Progress) (rest : List ℕ) → IsLed bytes at p → rest ≡ drop at bytes
      → NoneBefore (Passes (is_byte 10) rest) 0 (length rest) end → Passes (is_byte 10) rest end → q ≡ with_line header p (take n (drop at bytes)) → n ≡ end
      → IsLed bytes (at + (end + 1)) q
  led_on bytes at end n p q rest k is before here e same =
      let high = before.high in
      let line = line_is bytes at end n rest is same in record {
        within = omega (arith, ap (length {A = ℕ}) is, length-drop at bytes);
        led = k.led ∙ line_on p (take end rest) (drop (at + (end + 1)) bytes) (drop at bytes) (next_parts bytes at end rest is before here)
            ∙ ap (λ (x : Progress). parts_read header x (separated_parts 10 (drop (at + (end + 1)) bytes)))
            (sym (e ∙ ap (with_line header p) line));
      }

  -- a line that is bad, or for which memory runs out
  pub led_fault : (bytes : List ℕ) (at end n : ℕ) (p q : Progress) (rest : List ℕ) (fault : Fault TranscriptReason) → IsLed bytes at p
      → rest ≡ drop at bytes → NoneBefore (Passes (is_byte 10) rest) 0 (length rest) end → Passes (is_byte 10) rest end
      → ReadsTranscriptLine {T = Unit {0}} (Err fault) p q (with_line header p (take n (drop at bytes))) → n ≡ end
      → Gives {X = Job × Book} job_story (Err fault) (transcript_read header bytes)
  led_fault bytes at end n p q rest NoMemory k is before here h same = tt
  led_fault bytes at end n p q rest (Refused reason) k is before here h same =
      k.led ∙ line_on p (take end rest) (drop (at + (end + 1)) bytes) (drop at bytes) (next_parts bytes at end rest is before here)
      ∙ ap (λ (l : List ℕ). parts_read header (with_line header p l) (separated_parts 10 (drop (at + (end + 1)) bytes)))
      (sym (line_is bytes at end n rest is same))
      ∙ bad_reads (with_line header p (take n (drop at bytes))) reason (separated_parts 10 (drop (at + (end + 1)) bytes)) h.1

  -- what stands after the last line feed
  pub led_to_end : (bytes : List ℕ) (at : ℕ) (p : Progress) (rest : List ℕ) → IsLed bytes at p → rest ≡ drop at bytes
      → Nowhere (Passes (is_byte 10) rest) 0 (length rest) → transcript_read header bytes ≡ story_at_end p rest
  led_to_end bytes at p rest k is nowhere = k.led ∙ ap (parts_read header p) (next_none 10 at bytes rest false refl is nowhere)

  -- what is read is a whole transcript
  pub whole_of : (bytes : List ℕ) (r : Result (Job × Book) (Fault TranscriptReason)) → Gives job_story r (transcript_read header bytes)
      → IfOk r (λ p. IsWholeText header bytes (job_story p))
  whole_of bytes (Ok x) e = text_is_whole header bytes (job_story x) e
  whole_of bytes (Err f) e = tt
