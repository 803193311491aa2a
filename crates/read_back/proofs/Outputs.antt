-- What is written of a plain job is read as the job that is made of it.
use Rattle.std.proofs.Common.{◌≡◌, ℕ, Bool, true, false, List, [], ◌∷◌, ◌++◌, map, drop, Some, Ok, refl, sym, ap, ◌∙◌}
use Rattle.std.specs.Prelude.{codes}
use Rattle.std.specs.Str.{is_utf8}
use Rattle.serde_json.specs.Read.{read}
use Rattle.swap_base.specs.Fault.{steps}
use Rattle.swap_job.specs.declared.event.Event.{Event}
use Rattle.swap_job.specs.declared.job.Job.{Job}
use Rattle.swap_job.specs.declared.job.Purpose.{Purpose}
use Rattle.swap_job.specs.declared.job.Purpose.TheVariants.{Make, Run}
use Rattle.offer_moves.proofs.Chains.{went}
use Rattle.offer_text.specs.HeaderLine.{header_line, made_header}
use Rattle.swap_offer.specs.Job.{counted, parse_job_events, parse_events, events_unless, parse_header_job, parse_job, job_of_lines}
use Rattle.command_input.specs.Lines.{filled_lines, is_blank, collect_lines}
use Rattle.swap_gen.specs.Made.{made}
use Rattle.made_jobs.specs.Making.{made_lines_output, made_output, made_text, written_line}
use Rattle.read_back.proofs.Onward.{ok_is}
use Rattle.read_back.proofs.Steps.{step}
use Rattle.transcript_book.specs.Between.{fed_lines}
use Rattle.read_back.specs.Made.{further_lines, numbered_lines, reads_jobs, told_job, with_job, HasTexts, IsOneLine}
use Rattle.read_back.specs.Made.{MadeHeaderIsOneLine, MadeHeaderIsReadBack, MadeHeaderReads, MadeOutputIsReadBack, MadeTextIsReadBack}
use Rattle.read_back.proofs.HeaderTexts as texts
use Rattle.read_back.proofs.MadeLimited.{not_plain}
use Rattle.read_back.proofs.Lines.{all_filled, input_lines, lines_back, written_lines, AreLines}
use Rattle.read_back.proofs.Plain.{made_is_told, IsPlainJob}
use Rattle.read_back.proofs.ReadPlain.{read_is_plain}
use Rattle.read_back.proofs.MadeWhole.{job_back}

-- ---- header lines

module _ (has : List ℕ → Bool) (plain : Job) (k : IsPlainJob has plain) where
  pub plain_header_reads : (is_utf8 (header_line (made plain)) ≡ true) × (read (header_line (made plain)) ≡ Some (made_header (made plain)))
  unfolding header_line
  plain_header_reads = texts.header_reads has (told_job Run plain) (made_is_told has plain k Run refl)

  pub plain_header_is_one : IsOneLine (header_line (made plain))
  unfolding header_line
  plain_header_is_one = texts.header_line_is_one has (told_job Run plain) (made_is_told has plain k Run refl)

  pub plain_text_back : (purpose : Purpose) → reads_jobs purpose ≡ true → (number : ℕ) (again : List ℕ) → is_utf8 again ≡ true
      → read again ≡ Some (made_header (made plain)) → parse_header_job has purpose number again ≡ Ok (told_job purpose plain)
  plain_text_back purpose reads number again utf8 same = job_back has (told_job purpose plain) (made_is_told has plain k purpose reads) number again utf8 same

  pub plain_header_back : (purpose : Purpose) → reads_jobs purpose ≡ true → (number : ℕ)
      → parse_header_job has purpose number (header_line (made plain)) ≡ Ok (told_job purpose plain)
  plain_header_back purpose reads number =
      plain_text_back purpose reads number (header_line (made plain)) plain_header_reads.0 plain_header_reads.1

  -- ---- a whole text

  -- it begins with a brace
  not_blank : is_blank (header_line (made plain)) ≡ false
  unfolding header_line
  not_blank = refl

  -- the lines of a text of the header line and others are these, and none of them is blank
  pub text_lines : (ls : List (List ℕ)) → AreLines ls
      → filled_lines 1 (collect_lines (fed_lines (header_line (made plain) ∷ ls))) ≡ (1, header_line (made plain)) ∷ numbered_lines 2 ls
  text_lines ls h =
      ap (filled_lines 1) (lines_back (header_line (made plain) ∷ ls) (plain_header_is_one, not_blank, h))
      ∙ all_filled 1 (header_line (made plain) ∷ ls) (plain_header_is_one, not_blank, h)

  pub text_back : (purpose : Purpose) → reads_jobs purpose ≡ true → (ls : List (List ℕ)) → AreLines ls
      → parse_job has purpose (fed_lines (header_line (made plain) ∷ ls))
      ≡ with_job (told_job purpose plain) (parse_events (told_job purpose plain) 0 (numbered_lines 2 ls))
  unfolding parse_job
  text_back purpose reads ls h =
      ap (job_of_lines has purpose) (text_lines ls h)
      ∙ step _ (told_job purpose plain) _ (plain_header_back purpose reads 1)
      ∙ ap (λ (b : Bool). with_job (told_job purpose plain) (events_unless b (told_job purpose plain) (numbered_lines 2 ls))) (not_plain purpose reads)

  pub made_is_text : (ls : List (ℕ × List ℕ)) → made_text plain ls ≡ fed_lines (header_line (made plain) ∷ map (λ x. x.1) ls)
  unfolding made_text written_line
  made_is_text ls = written_lines (header_line (made plain) ++ codes "\n") ls

pub made_header_reads : MadeHeaderReads
made_header_reads has line text plain t e = plain_header_reads has plain (read_is_plain has t line text plain e)

pub made_header_is_one_line : MadeHeaderIsOneLine
made_header_is_one_line has line text plain t e = plain_header_is_one has plain (read_is_plain has t line text plain e)

pub made_text_is_read_back : MadeTextIsReadBack
made_text_is_read_back has line text plain t e = plain_text_back has plain (read_is_plain has t line text plain e)

pub made_header_is_read_back : MadeHeaderIsReadBack
made_header_is_read_back has line text plain t e = plain_header_back has plain (read_is_plain has t line text plain e)

-- ---- what is written of an input

-- A plain job, and what is written of it with the further lines.
record IsMadeOf (has : List ℕ → Bool) (lines : List (ℕ × List ℕ)) (output : List ℕ) : Type 0 where
  plain : Job
  good : IsPlainJob has plain
  read : job_of_lines has Make lines ≡ Ok (plain, [])
  written : made_text plain (drop 1 lines) ≡ output

by_parts : (has : List ℕ → Bool) (l : ℕ × List ℕ) (ls : List (ℕ × List ℕ)) (plain : Job) (events : List Event) (j : Job × List Event) (output : List ℕ)
    → IsPlainJob has plain → [] ≡ events → (plain, events) ≡ j → job_of_lines has Make (l ∷ ls) ≡ Ok j → made_text j.0 ls ≡ output
    → IsMadeOf has (l ∷ ls) output
by_parts has l ls plain events j output good none same read written =
    let joint : (plain, []) ≡ j = ap (λ (es : List Event). (plain, es)) none ∙ same in
    record {
      plain = plain;
      good = good;
      read = read ∙ ap (λ (x : Job × List Event). Ok x) (sym joint);
      written = ap (λ (x : Job × List Event). made_text x.0 ls) joint ∙ written;
    }

party_made : (has : List ℕ → Bool) → HasTexts has → (lines : List (ℕ × List ℕ)) (output : List ℕ) → made_lines_output has lines ≡ Ok output → IsMadeOf has lines output
party_made has t [] output e = absurd (cc e)
party_made has t (l ∷ ls) output e =
    let whole = went (job_of_lines has Make (l ∷ ls)) _ output e in
    let header = went (parse_header_job has Make l.0 l.1) _ whole.0 whole.1 in
    let events = went (parse_job_events Make header.0 ls) _ whole.0 header.2 in
    let count = went (steps counted 0 ls) _ events.0 events.1 in
    by_parts has l ls header.0 events.0 whole.0 output (read_is_plain has t l.0 l.1 header.0 header.1) (ok_is [] events.0 count.2)
    (ok_is (header.0, events.0) whole.0 events.2) whole.1 (ok_is (made_text whole.0.0 ls) output whole.2)

tail_lines : (lines : List (ℕ × List ℕ)) → AreLines (map (λ x. x.1) lines) → AreLines (map (λ x. x.1) (drop 1 lines))
tail_lines [] h = tt
tail_lines (l ∷ ls) h = h.2

pub made_output_is_read_back : MadeOutputIsReadBack
unfolding made_output parse_job
made_output_is_read_back has input output t e purpose reads =
    let lines = filled_lines 1 (collect_lines input) in
    let m = party_made has t lines output e in
    let text : made_text m.plain (drop 1 lines) ≡ fed_lines (header_line (made m.plain) ∷ further_lines input) =
    made_is_text has m.plain m.good (drop 1 lines) in
    record {
      plain = m.plain;
      is_plain = m.read;
      is_made = ap (parse_job has purpose) (sym m.written ∙ text)
          ∙ text_back has m.plain m.good purpose reads (further_lines input) (tail_lines lines (input_lines input));
    }
