-- What was read of an input leads to what the reader knows, whatever comes after it.
use Rattle.std.proofs.Common.{◌≡◌, ◌==◌, ℕ, Bool, true, false, not, cond, IsTrue, List, [], ◌∷◌, ◌++◌, Option, Err, refl, sym, ap, ◌∙◌, subst}
use Rattle.std.proofs.Common.{append_assoc}
use Rattle.std.proofs.lemmas.Bool.{and_parts}
use Rattle.swap_io.specs.Tape.{Tape}
use Rattle.swap_base.specs.declared.fault.Fault.{Fault}
use Rattle.swap_base.specs.declared.fault.Fault.TheVariants as fault
use Rattle.swap_io.specs.Lines.{lacks_feed}
use Rattle.transcript_book.specs.Between.{longer_first, separated_parts}
use Rattle.audit_command.specs.declared.reason.TranscriptReason.{TranscriptReason}
use Rattle.audit_command.specs.Header.{header_read}
use Rattle.audit_command.specs.Stages.{Progress, no_lines, with_line}
use Rattle.audit_command.specs.TranscriptReading.{ReadsTranscriptLine, parts_read, transcript_read}
use Rattle.audit_command.proofs.Steps.{bad_reads, line_on}
use Rattle.command_input.specs.Faults.{of_offer}
use Rattle.command_input.specs.Input.{InputProgress, Desk, Ends, GivesPart, IsFed, IsRest, Stands, Stops, desk, fresh}
use Rattle.command_input.proofs.Ahead.{stands_none, stands_on}
use Rattle.command_input.proofs.Streams.{can_come, fits_fresh, no_memory_after}
use Rattle.audit_command.specs.Reading.{IsBad, IsReadByReader}
use Rattle.audit_command.proofs.Back.{not_feed}

-- ---- lines

-- a line that a line feed ends is the first part
one_line : (text rest : List ℕ) → IsTrue (lacks_feed text) → separated_parts 10 (text ++ 10 ∷ rest) ≡ text ∷ separated_parts 10 rest
one_line [] rest one = refl
one_line (b ∷ text) rest one =
    let p = and_parts (not (b == 10)) (lacks_feed text) one in
    ap (λ t. cond t ([] ∷ separated_parts 10 (text ++ 10 ∷ rest)) (longer_first b (separated_parts 10 (text ++ 10 ∷ rest)))) (not_feed (b == 10) p.0)
    ∙ ap (longer_first b) (one_line text rest p.1)

-- bytes that no line feed ends are the last part
one_part : (text : List ℕ) → IsTrue (lacks_feed text) → separated_parts 10 text ≡ text ∷ []
one_part [] one = refl
one_part (b ∷ text) one =
    let p = and_parts (not (b == 10)) (lacks_feed text) one in
    ap (λ t. cond t ([] ∷ separated_parts 10 text) (longer_first b (separated_parts 10 text))) (not_feed (b == 10) p.0)
    ∙ ap (longer_first b) (one_part text p.1)

-- ---- what was read so far

pub record Led (first now : Desk) (p : Progress) : Type 0 where
  pub bytes : List ℕ
  pub stands : Stands first now bytes
  pub open_yet : now.at.over ≡ false
  pub leads : (rest : List ℕ) → transcript_read header_read (bytes ++ rest) ≡ parts_read header_read p (separated_parts 10 (now.at.reading.kept ++ rest))

led_fresh : (left : Tape) (n : ℕ) (p : Progress) → p ≡ no_lines → Led (desk left n fresh) (desk left n fresh) p
unfolding transcript_read
led_fresh left n p q = record {
  bytes = [];
  stands = stands_none (desk left n fresh) (fits_fresh left fresh refl);
  open_yet = refl;
  leads = λ rest. sym (ap (λ (x : Progress). parts_read header_read x (separated_parts 10 rest)) q);
}

pub led_first : (left : Tape) (n : ℕ) (s : InputProgress) (p : Progress) → s ≡ fresh → p ≡ no_lines → Led (desk left n fresh) (desk left n s) p
led_first left n s p e q = subst (λ (x : InputProgress). Led (desk left n fresh) (desk left n x) p) (sym e) (led_fresh left n p q)

-- the next line, and what comes after it
stepped : (first s t : Desk) (p : Progress) (k : Led first s p) (l : IsFed s t) (rest : List ℕ)
    → transcript_read header_read ((k.bytes ++ l.bytes) ++ rest)
    ≡ parts_read header_read (with_line header_read p t.at.text) (separated_parts 10 (t.at.reading.kept ++ rest))
stepped first s t p k l rest =
    let text = t.at.text in
    let kept = t.at.reading.kept in
    let shape : s.at.reading.kept ++ (l.bytes ++ rest) ≡ text ++ (10 ∷ (kept ++ rest)) =
    sym (append_assoc s.at.reading.kept l.bytes rest) ∙ ap (λ (xs : List ℕ). xs ++ rest) l.parts ∙ append_assoc text (10 ∷ kept) rest in
    ap (transcript_read header_read) (append_assoc k.bytes l.bytes rest)
    ∙ k.leads (l.bytes ++ rest)
    ∙ line_on header_read p text (kept ++ rest) (s.at.reading.kept ++ (l.bytes ++ rest)) (ap (separated_parts 10) shape ∙ one_line text (kept ++ rest) l.one)

pub led_on : (first s t : Desk) (p q : Progress) → Led first s p → IsFed s t → q ≡ with_line header_read p t.at.text → Led first t q
led_on first s t p q k l e = record {
  bytes = k.bytes ++ l.bytes;
  stands = stands_on first s t k.bytes l.bytes k.stands l.stands;
  open_yet = l.open_yet;
  leads = λ rest. stepped first s t p k l rest
      ∙ ap (λ (x : Progress). parts_read header_read x (separated_parts 10 (t.at.reading.kept ++ rest))) (sym e);
}

-- a line that is bad, or for which memory runs out
pub led_fault : (left : Tape) (n : ℕ) (s t : Desk) (p q : Progress) (f : Fault TranscriptReason) → Led (desk left n fresh) s p → IsFed s t
    → ReadsTranscriptLine {T = Unit {0}} (Err f) p q (with_line header_read p t.at.text) → Stops IsBad (desk left n fresh) t (of_offer f)
led_fault left n s t p q fault.NoMemory k l h =
    no_memory_after (desk left n fresh) t (k.bytes ++ l.bytes) (stands_on (desk left n fresh) s t k.bytes l.bytes k.stands l.stands)
led_fault left n s t p q (fault.Refused reason) k l h = record {
  bytes = k.bytes ++ l.bytes;
  stands = stands_on (desk left n fresh) s t k.bytes l.bytes k.stands l.stands;
  can = λ rest can. can_come fresh ((k.bytes ++ l.bytes) ++ rest) refl;
  told = λ rest can. stepped (desk left n fresh) s t p k l rest
      ∙ bad_reads header_read (with_line header_read p t.at.text) reason (separated_parts 10 (t.at.reading.kept ++ rest)) h.1;
}

-- all lines were read
pub led_to_end : (left : Tape) (n : ℕ) (s t : Desk) (p : Progress) → Led (desk left n fresh) s p → IsRest s t
    → Ends (IsReadByReader p t.at.text) (desk left n fresh) t
led_to_end left n s t p k l = record {
  bytes = k.bytes ++ l.bytes;
  stands = stands_on (desk left n fresh) s t k.bytes l.bytes k.stands l.stands;
  can = can_come fresh (k.bytes ++ l.bytes) refl;
  told = k.leads l.bytes ∙ ap (λ (xs : List ℕ). parts_read header_read p (separated_parts 10 xs)) l.parts
      ∙ ap (parts_read header_read p) (one_part t.at.text l.one);
  ended = l.stands.fits.ended l.met;
}

-- what the next part is, by whether a line feed ended it

pub line_of : (more : Bool) (s t : Desk) → more ≡ true → GivesPart more s t → IsFed s t
line_of true s t e p = p
line_of false s t e p = absurd (cc e)

pub last_run : (more : Bool) (s t : Desk) → more ≡ false → GivesPart more s t → IsRest s t
last_run true s t e p = absurd (cc e)
last_run false s t e p = p
