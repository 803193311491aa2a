-- Bytes that give a job and a book are a whole transcript of them.
use Rattle.std.proofs.Common.{◌≡◌, ◌&&◌, ◌+◌, ◌≤◌, ◌<◌, ℕ, nat_lt, Bool, true, false, cond, List, [], ◌∷◌, ◌++◌, length, Some}
use Rattle.std.proofs.Common.{Result, Ok, Err, refl, sym, ap, ◌∙◌, subst, arith, append_assoc, ltb-false}
use Rattle.std.specs.Prelude.{codes}
use Rattle.std.specs.Str.{bytes_eq}
use Rattle.std.proofs.lemmas.List.{nil_from_length}
use Rattle.swap_base.specs.Fault.{◌>>=◌, steps}
use Rattle.hashkey_path.proofs.Validity.{bytes_eq-true}
use Rattle.swap_job.specs.declared.job.Job.{Job}
use Rattle.command_input.specs.declared.refusal.Refusal.{Refusal}
use Rattle.transcript_book.specs.declared.said.Misspelling.{Misspelling}
use Rattle.transcript_book.specs.Between.{between, fed_lines, separated_parts}
use Rattle.transcript_book.specs.Lines.{IsStated, lines_from_arc}
use Rattle.transcript_book.specs.declared.place.Place.{Place}
use Rattle.transcript_book.specs.declared.place.Place.TheVariants.{Ledger, Entries, Over}
use Rattle.transcript_book.specs.Stages.{BookSoFar, is_finished, line_read, no_ledgers}
use Rattle.transcript_book.specs.Books.{whole}
use Rattle.transcript_book.proofs.Exact.{parts_some, parts_whole}
use Rattle.transcript_book.proofs.Sound.{read_is_whole}
use Rattle.command_input.specs.Input.{limit}
use Rattle.audit_command.specs.declared.reason.TranscriptReason.{TranscriptReason}
use Rattle.audit_command.specs.declared.reason.TranscriptReason.TheVariants.{BadLine, TooLong, CutShort, Header as BadHeader}
use Rattle.audit_command.specs.declared.stage.Stage.{Stage}
use Rattle.audit_command.specs.declared.stage.Stage.TheVariants.{Header, Ledgers, Bad}
use Rattle.audit_command.specs.Stages.{Progress, ledgers_stage, headed_stage, more_bytes, next_line_number, no_lines, next_stage}
use Rattle.audit_command.specs.TranscriptReading.{Story, story_without_rest, parts_read, story_so_far, transcript_read, unless_long}
use Rattle.audit_command.specs.Laws.{IsWholeText, ReadTextIsWhole, job_or_none}

abbrev pub at_stage : Stage → (lines bytes : ℕ) → Progress
at_stage stage lines bytes = record { stage = stage; lines = lines; bytes = bytes }

-- after a bad line nothing is read
pub bad_stands : (header : List ℕ → Result Job Refusal) (reason : TranscriptReason) (n m : ℕ) (ps : List (List ℕ))
    → parts_read header (at_stage (Bad reason) n m) ps ≡ Err reason
unfolding next_stage
bad_stands header reason n m [] = refl
bad_stands header reason n m (rest ∷ []) = refl
bad_stands header reason n m (l ∷ next ∷ ps) = bad_stands header reason (next_line_number n) (more_bytes m (length l + 1)) (next ∷ ps)

not_long : {A : Type 0} (m : ℕ) (r : Result A TranscriptReason) (y : A) → unless_long m r ≡ Ok y → r ≡ Ok y
not_long m r y e = by (nat_lt limit m) e
  where
    by : (t : Bool) → cond t (Err TooLong) r ≡ Ok y → r ≡ Ok y
    by true k = absurd (cc k)
    by false k = k

-- no book without the last line
cut_off : {P : Type 0} (m : ℕ) (t : Story) → unless_long m (Err CutShort) ≡ Ok t → P
cut_off m t e = absurd (cc (not_long m (Err CutShort) t e))

-- ---- the ledgers

-- The parts are lines that are read whole, and nothing after the last line feed.
record AreLines (s : BookSoFar) (ps : List (List ℕ)) (t : Story) : Type 0 where
  lines : List (List ℕ)
  parts : ps ≡ lines ++ [] ∷ []
  last : BookSoFar
  read : steps line_read s lines ≡ Ok last
  over : last.place ≡ Over
  job_is : t.job ≡ last.job
  book_is : t.book ≡ last.book

over_is : (p : Place) → is_finished p ≡ true → p ≡ Over
over_is Ledger e = absurd (cc e)
over_is Entries e = absurd (cc e)
over_is Over e = refl

ok_is : (x y : Story) → ◌≡◌ {A = Result Story TranscriptReason} (Ok x) (Ok y) → x ≡ y
ok_is x y q = cc

told_is : (n m : ℕ) (s : BookSoFar) (rest : List ℕ) (t : Story) → story_without_rest n m s rest ≡ Ok t → AreLines s (rest ∷ []) t
unfolding steps
told_is n m s rest t e = by (is_finished s.place) (nat_lt 0 (length rest)) refl refl e
  where
    by : (over some : Bool) → is_finished s.place ≡ over → nat_lt 0 (length rest) ≡ some
        → cond (over && some) (Err (BadLine (next_line_number n))) (unless_long m (cond over (Ok (story_so_far s)) (Err CutShort))) ≡ Ok t → AreLines s (rest ∷ []) t
    by true true p q k = absurd (cc k)
    by true false p q k =
        let none : rest ≡ [] = nil_from_length rest (let le : length rest ≤ 0 = ltb-false 0 (length rest) q in omega arith) in
        let same : story_so_far s ≡ t = ok_is (story_so_far s) t (not_long m (Ok (story_so_far s)) t k) in record {
          lines = [];
          parts = ap (λ (r : List ℕ). r ∷ []) none;
          last = s;
          read = refl;
          over = over_is s.place p;
          job_is = sym (ap (λ (x : Story). x.job) same);
          book_is = sym (ap (λ (x : Story). x.book) same);
        }
    by false some p q k = cut_off m t k

ledgers_are : (header : List ℕ → Result Job Refusal) (s : BookSoFar) (n m : ℕ) (ps : List (List ℕ)) (t : Story) → 0 < length ps
    → parts_read header (at_stage (Ledgers s) n m) ps ≡ Ok t → AreLines s ps t
unfolding next_stage steps
ledgers_are header s n m [] t some e = absurd (omega arith)
ledgers_are header s n m (rest ∷ []) t some e = told_is n (more_bytes m (length rest)) s rest t e
ledgers_are header s n m (l ∷ next ∷ ps) t some e =
    by (line_read s l) refl (λ u. ledgers_are header u (next_line_number n) (more_bytes m (length l + 1)) (next ∷ ps) t (omega arith)) e
  where
    by : (r : Result BookSoFar Misspelling) → line_read s l ≡ r
        → ((u : BookSoFar) → parts_read header (at_stage (Ledgers u) (next_line_number n) (more_bytes m (length l + 1))) (next ∷ ps) ≡ Ok t → AreLines u (next ∷ ps) t)
        → parts_read header (at_stage (ledgers_stage (next_line_number n) r) (next_line_number n) (more_bytes m (length l + 1))) (next ∷ ps) ≡ Ok t → AreLines s (l ∷ next ∷ ps) t
    by (Ok u) q more k =
        let rest = more u k in record {
          lines = l ∷ rest.lines;
          parts = ap (λ (x : List (List ℕ)). l ∷ x) rest.parts;
          last = rest.last;
          read = ap (λ (x : Result BookSoFar Misspelling). x >>= λ v. steps line_read v rest.lines) q ∙ rest.read;
          over = rest.over;
          job_is = rest.job_is;
          book_is = rest.book_is;
        }
    by (Err f) q more k = absurd (cc (sym (bad_stands header (BadLine (next_line_number n)) (next_line_number n) (more_bytes m (length l + 1)) (next ∷ ps)) ∙ k))

-- ---- the first two lines

-- lines, each with its line feed
pub ended_between : (ls : List (List ℕ)) → between 10 (ls ++ [] ∷ []) ≡ fed_lines ls
ended_between [] = refl
ended_between (l ∷ ls) = by ls (ended_between ls)
  where
    by : (ks : List (List ℕ)) → between 10 (ks ++ [] ∷ []) ≡ fed_lines ks → between 10 (l ∷ (ks ++ [] ∷ [])) ≡ (l ++ 10 ∷ []) ++ fed_lines ks
    by [] e = sym (append_assoc l (10 ∷ []) [])
    by (k ∷ ks) e = ap (λ (x : List ℕ). l ++ 10 ∷ x) e ∙ sym (append_assoc l (10 ∷ []) (fed_lines (k ∷ ks)))

whole_text : (header : List ℕ → Result Job Refusal) (bytes line : List ℕ) (ps : List (List ℕ)) (job : Job) (t : Story) → header line ≡ Ok job
    → separated_parts 10 bytes ≡ codes "swap transcript 1" ∷ line ∷ ps → AreLines (no_ledgers job) ps t → IsWholeText header bytes t
whole_text header bytes line ps job t gives parts k =
    let w = read_is_whole job k.lines k.last k.read k.over in
    let job_is : t.job ≡ job = k.job_is ∙ ap (λ (s : BookSoFar). s.job) w.read in
    let all = codes "swap transcript 1" ∷ line ∷ k.lines in record {
      lines = all;
      text = sym (parts_whole 10 bytes) ∙ ap (between 10) (parts ∙ ap (λ (x : List (List ℕ)). codes "swap transcript 1" ∷ line ∷ x) k.parts)
          ∙ ended_between all;
      whole = record {
        header = line;
        gives = ap job_or_none gives ∙ ap (λ (j : Job). Some j) (sym job_is);
        lines = ap (λ (x : List (List ℕ)). codes "swap transcript 1" ∷ line ∷ x) (w.lines ∙ ap (lines_from_arc 0) (sym k.book_is));
        stated = subst (λ (j : Job). IsStated j.deal t.book) (sym job_is) (subst (IsStated job.deal) (sym k.book_is) w.stated);
      };
    }

after_header : (header : List ℕ → Result Job Refusal) (bytes line next : List ℕ) (ps : List (List ℕ)) (t : Story) (n m : ℕ)
    → separated_parts 10 bytes ≡ codes "swap transcript 1" ∷ line ∷ next ∷ ps → parts_read header (at_stage (headed_stage (header line)) n m) (next ∷ ps) ≡ Ok t
    → IsWholeText header bytes t
after_header header bytes line next ps t n m parts e = by (header line) refl e
  where
    by : (r : Result Job Refusal) → header line ≡ r → parts_read header (at_stage (headed_stage r) n m) (next ∷ ps) ≡ Ok t → IsWholeText header bytes t
    by (Ok job) q k = whole_text header bytes line (next ∷ ps) job t q parts (ledgers_are header (no_ledgers job) n m (next ∷ ps) t (omega arith) k)
    by (Err refusal) q k = absurd (cc (sym (bad_stands header (BadHeader refusal) n m (next ∷ ps)) ∙ k))

after_first : (header : List ℕ → Result Job Refusal) (bytes : List ℕ) (ps : List (List ℕ)) (t : Story) (n m : ℕ) → 0 < length ps
    → separated_parts 10 bytes ≡ codes "swap transcript 1" ∷ ps → parts_read header (at_stage Header n m) ps ≡ Ok t → IsWholeText header bytes t
unfolding next_stage
after_first header bytes [] t n m some parts e = absurd (omega arith)
after_first header bytes (line ∷ []) t n m some parts e = cut_off (more_bytes m (length line)) t e
after_first header bytes (line ∷ next ∷ ps) t n m some parts e = after_header header bytes line next ps t (next_line_number n) (more_bytes m (length line + 1)) parts e

from_parts : (header : List ℕ → Result Job Refusal) (bytes : List ℕ) (ps : List (List ℕ)) (t : Story) → 0 < length ps → separated_parts 10 bytes ≡ ps
    → parts_read header no_lines ps ≡ Ok t → IsWholeText header bytes t
unfolding next_stage
from_parts header bytes [] t some parts e = absurd (omega arith)
from_parts header bytes (l ∷ []) t some parts e = cut_off (more_bytes 0 (length l)) t e
from_parts header bytes (l ∷ next ∷ ps) t some parts e = by (bytes_eq l (codes "swap transcript 1")) refl e
  where
    by : (test : Bool) → bytes_eq l (codes "swap transcript 1") ≡ test
        → parts_read header (at_stage (cond test Header (Bad (BadLine (next_line_number 0)))) (next_line_number 0) (more_bytes 0 (length l + 1))) (next ∷ ps) ≡ Ok t
        → IsWholeText header bytes t
    by true q k =
        after_first header bytes (next ∷ ps) t (next_line_number 0) (more_bytes 0 (length l + 1)) (omega arith)
        (parts ∙ ap (λ (x : List ℕ). x ∷ next ∷ ps) (bytes_eq-true l (codes "swap transcript 1") q)) k
    by false q k = absurd (cc (sym (bad_stands header (BadLine (next_line_number 0)) (next_line_number 0) (more_bytes 0 (length l + 1)) (next ∷ ps)) ∙ k))

pub text_is_whole : ReadTextIsWhole
unfolding transcript_read
text_is_whole header bytes t e = from_parts header bytes (separated_parts 10 bytes) t (parts_some 10 bytes) refl e
