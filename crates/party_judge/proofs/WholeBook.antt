-- The lines of ledgers that are read are those of a whole book.
use Rattle.std.proofs.Common.{◌≡◌, ℕ, Bool, true, false, cond, List, [], ◌∷◌, Result, Ok, Err, refl, sym, ap, ◌∙◌, subst}
use Rattle.swap_base.specs.Fault.{◌>>=◌, steps}
use Rattle.ledger_core.specs.Book.{Histories}
use Rattle.swap_job.specs.declared.job.Job.{Job}
use Rattle.command_input.specs.declared.reason.Reason.TheVariants.{CutShort}
use Rattle.command_input.specs.declared.refusal.Refusal.{Refusal}
use Rattle.transcript_book.specs.declared.place.Place.{Place}
use Rattle.transcript_book.specs.declared.place.Place.TheVariants.{Ledger, Entries, Over}
use Rattle.transcript_book.specs.declared.said.Misspelling.{Misspelling}
use Rattle.transcript_book.specs.Books.{IsWholeBook}
use Rattle.transcript_book.specs.Lines.{IsStated, lines_from_arc}
use Rattle.transcript_book.specs.Stages.{BookSoFar, is_finished, line_read, no_ledgers}
use Rattle.transcript_book.proofs.Sound.{read_is_whole}
use Rattle.party_rows.specs.Lines.{following_line_number, nameless, or_bad_line}
use Rattle.party_judge.specs.Ledgers.{further_lines_read, ledgers_read}
use Rattle.party_judge.specs.Told.{told_so_far}

over_is : (p : Place) → is_finished p ≡ true → p ≡ Over
over_is Ledger e = absurd (cc e)
over_is Entries e = absurd (cc e)
over_is Over e = refl

ok_is : (s t : BookSoFar) → ◌≡◌ {A = Result BookSoFar Refusal} (Ok s) (Ok t) → s ≡ t
ok_is s t e = cc

-- What is read of further lines that end with the last one.
record IsRead (s : BookSoFar) (ls : List (List ℕ)) (t : BookSoFar) : Type 0 where
  pub read : steps line_read s ls ≡ Ok t
  pub over : t.place ≡ Over

stepped : (n : ℕ) (s : BookSoFar) (ls : List (List ℕ)) (t : BookSoFar) → further_lines_read n s ls ≡ Ok t → IsRead s ls t
unfolding steps
stepped n s [] t e = by (is_finished s.place) refl e
  where
    by : (over : Bool) → is_finished s.place ≡ over → cond over (Ok s) (Err (nameless CutShort)) ≡ Ok t → IsRead s [] t
    by true p k =
        let same : s ≡ t = ok_is s t k in record {
          read = ap (λ (x : BookSoFar). let r : Result BookSoFar Misspelling = Ok x in r) same;
          over = ap (λ (x : BookSoFar). x.place) (sym same) ∙ over_is s.place p;
        }
    by false p k = absurd (cc k)
stepped n s (l ∷ ls) t e = by (line_read s l) refl (λ u. stepped (following_line_number n) u ls t) e
  where
    by : (r : Result BookSoFar Misspelling) → line_read s l ≡ r
        → ((u : BookSoFar) → further_lines_read (following_line_number n) u ls ≡ Ok t → IsRead u ls t)
        → (or_bad_line n r >>= λ u. further_lines_read (following_line_number n) u ls) ≡ Ok t → IsRead s (l ∷ ls) t
    by (Ok u) q more k =
        let rest = more u k in record {
          read = ap (λ (x : Result BookSoFar Misspelling). x >>= λ v. steps line_read v ls) q ∙ rest.read;
          over = rest.over;
        }
    by (Err f) q more k = absurd (cc k)

-- the lines are those of a whole book
pub whole_told : (job : Job) (n : ℕ) (ls : List (List ℕ)) (t : BookSoFar) → ledgers_read job n ls ≡ Ok t → IsWholeBook job ls t
unfolding ledgers_read
whole_told job n ls t e = let k = stepped n (no_ledgers job) ls t e in read_is_whole job ls t k.read k.over

-- A job and a book that lines tell.
pub record IsTold (job : Job) (ls : List (List ℕ)) (j : Job) (b : Histories) : Type 0 where
  pub same : j ≡ job
  pub lines : ls ≡ lines_from_arc 0 b
  pub stated : IsStated job.deal b

pair_is : (x y : Job × Histories) → ◌≡◌ {A = Result (Job × Histories) Refusal} (Ok x) (Ok y) → x ≡ y
pair_is x y e = cc

pub is_told : (job : Job) (n : ℕ) (ls : List (List ℕ)) (j : Job) (b : Histories) → told_so_far (ledgers_read job n ls) ≡ Ok (j, b) → IsTold job ls j b
is_told job n ls j b e = by (ledgers_read job n ls) refl e
  where
    by : (r : Result BookSoFar Refusal) → ledgers_read job n ls ≡ r → told_so_far r ≡ Ok (j, b) → IsTold job ls j b
    by (Ok t) q k =
        let w = whole_told job n ls t q in
        let p : (t.job, t.book) ≡ (j, b) = pair_is (t.job, t.book) (j, b) k in
        let job_is : t.job ≡ j = ap (λ (x : Job × Histories). x.0) p in
        let book_is : t.book ≡ b = ap (λ (x : Job × Histories). x.1) p in record {
          same = sym job_is ∙ ap (λ (s : BookSoFar). s.job) w.read;
          lines = w.lines ∙ ap (lines_from_arc 0) book_is;
          stated = subst (IsStated job.deal) book_is w.stated;
        }
    by (Err f) q k = absurd (cc k)
