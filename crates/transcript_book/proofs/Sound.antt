-- Lines that are read whole are those of the book that was read.
use Rattle.std.proofs.Common.{◌≡◌, ◌==◌, ◌+◌, ◌-◌, ◌≤◌, ◌<◌, ℕ, zero, suc, nat_lt, Bool, true, false, cond, List, [], ◌∷◌, ◌++◌, length, map}
use Rattle.std.proofs.Common.{get_or, Ok, refl, sym, ap, ap₂, ◌∙◌, subst, arith, append_assoc, append-nil, length-append, ltb-true, ltb-false}
use Rattle.std.specs.Prelude.{All, codes}
use Rattle.std.specs.Str.{bytes_eq}
use Rattle.std.proofs.lemmas.Bool.{ne_eqb}
use Rattle.swap_base.specs.Fault.{◌>>=◌, steps}
use Rattle.swap_digraph.specs.declared.deal.Deal.{Deal}
use Rattle.hashkey_path.proofs.Validity.{bytes_eq-true}
use Rattle.ledger_core.specs.declared.entry.Entry.{Entry}
use Rattle.ledger_core.specs.Book.{Histories}
use Rattle.swap_job.specs.declared.job.Job.{Job}
use Rattle.ledger_core.specs.WellFormed.{IsFormedContinuation}
use Rattle.transcript_book.specs.Lines.{IsStatable, IsStated, entry_line, lines_from_arc}
use Rattle.transcript_book.specs.Counts.{parse_limited_count}
use Rattle.transcript_book.specs.declared.place.Place.TheVariants.{Ledger, Entries, Over}
use Rattle.transcript_book.specs.Entries.{parse_next_entry}
use Rattle.transcript_book.specs.Stages.{BookSoFar, with_next_ledger, end_line_read, entry_read, with_next_entry, ledger_read, line_read, with_whole}
use Rattle.transcript_book.specs.Books.{ReadIsWhole, whole}
use Rattle.transcript_book.proofs.Exact.{went, ok_is, if_ok}
use Rattle.transcript_book.proofs.Placed.{count_is, count_line, entry_is}

-- ---- the histories from arc a on, as a transcript can state them

abbrev pub AreFrom : Deal → ℕ → Histories → Type 0
AreFrom d a [] = Unit {0}
AreFrom d a (h ∷ b) = IsFormedContinuation d a [] h × All IsStatable h × (length h ≤ 20064) × AreFrom d (a + 1) b

formed_at : (d : Deal) (a : ℕ) (b : Histories) (i : ℕ) → AreFrom d a b → i < length b → IsFormedContinuation d (a + i) [] (get_or b i [])
formed_at d a [] i k lt = absurd (omega arith)
formed_at d a (h ∷ b) zero k lt = let z : ◌≡◌ {A = ℕ} a (a + 0) = omega arith in subst (λ (j : ℕ). IsFormedContinuation d j [] h) z k.0
formed_at d a (h ∷ b) (suc i) k lt =
    let z : ◌≡◌ {A = ℕ} (a + 1 + i) (a + suc i) = omega arith in
    subst (λ (j : ℕ). IsFormedContinuation d j [] (get_or b i [])) z (formed_at d (a + 1) b i k.3 (omega arith))

statable_at : (d : Deal) (a : ℕ) (b : Histories) (i : ℕ) → AreFrom d a b → i < length b → All IsStatable (get_or b i [])
statable_at d a [] i k lt = absurd (omega arith)
statable_at d a (h ∷ b) zero k lt = k.1
statable_at d a (h ∷ b) (suc i) k lt = statable_at d (a + 1) b i k.3 (omega arith)

few_at : (d : Deal) (a : ℕ) (b : Histories) (i : ℕ) → AreFrom d a b → i < length b → length (get_or b i []) ≤ 20064
few_at d a [] i k lt = absurd (omega arith)
few_at d a (h ∷ b) zero k lt = k.2
few_at d a (h ∷ b) (suc i) k lt = few_at d (a + 1) b i k.3 (omega arith)

are_stated : (d : Deal) (b : Histories) → length b ≡ length d.graph.arcs → AreFrom d 0 b → IsStated d b
are_stated d b count k = record {
  formed = record {
    one_each = count;
    formed = λ i lt. let z : ◌≡◌ {A = ℕ} (0 + i) i = omega arith in subst (λ (j : ℕ). IsFormedContinuation d j [] (get_or b i [])) z (formed_at d 0 b i k lt);
  };
  statable = λ i lt. statable_at d 0 b i k lt;
  few = λ i lt. few_at d 0 b i k lt;
}

-- ---- what is to be read

abbrev pub at_ledger : Job → Histories → BookSoFar
at_ledger job b = record { job = job; book = b; entries = []; more = 0; place = Ledger }

abbrev pub in_ledger : Job → Histories → List Entry → ℕ → BookSoFar
in_ledger job b h more = record { job = job; book = b; entries = h; more = more; place = Entries }

-- where a text stands, with the number of entries that are to come of the next ledger; none where
-- it wasn't begun
abbrev at_place : Job → Histories → List Entry → ℕ → BookSoFar
at_place job b h zero = at_ledger job b
at_place job b h (suc more) = in_ledger job b h (suc more)

-- The ledgers that the lines are of, after those of b.
record FromLedger (job : Job) (b : Histories) (ls : List (List ℕ)) (t : BookSoFar) : Type 0 where
  rest : Histories
  read : t ≡ whole job (b ++ rest)
  lines : ls ≡ lines_from_arc (length b) rest
  stated : AreFrom job.deal (length b) rest
  count : length b + length rest ≡ length job.deal.graph.arcs

-- The lines tell `more` entries after those of h, and then further ledgers.
record FromEntries (job : Job) (b : Histories) (h : List Entry) (more : ℕ) (ls : List (List ℕ)) (t : BookSoFar) : Type 0 where
  entries : List Entry
  rest : Histories
  read : t ≡ whole job (b ++ (h ++ entries) ∷ rest)
  lines : ls ≡ map entry_line entries ++ lines_from_arc (length b + 1) rest
  many : length entries ≡ more
  formed : IsFormedContinuation job.deal (length b) h entries
  statable : All IsStatable entries
  stated : AreFrom job.deal (length b + 1) rest
  count : length b + (1 + length rest) ≡ length job.deal.graph.arcs

abbrev From : Job → Histories → List Entry → ℕ → List (List ℕ) → BookSoFar → Type 0
From job b h zero ls t = FromLedger job b ls t
From job b h (suc more) ls t = FromEntries job b h (suc more) ls t

push_length : (b : Histories) (h : List Entry) → length (b ++ h ∷ []) ≡ length b + 1
push_length b h = length-append b (h ∷ [])

all_cons : (e : Entry) (h : List Entry) → IsStatable e → All IsStatable h → All IsStatable (e ∷ h)
all_cons e h p k zero d lt = p
all_cons e h p k (suc i) d lt = k i d (omega arith)

none_all : All IsStatable []
none_all i d lt = absurd (omega arith)

-- a ledger with no entries, or whose last entry was read, and then the next ones
ledger_ends : (job : Job) (b : Histories) (h : List Entry) (ls : List (List ℕ)) (t : BookSoFar) → FromLedger job (b ++ h ∷ []) ls t
    → (rest : Histories) × (t ≡ whole job (b ++ h ∷ rest)) × (ls ≡ lines_from_arc (length b + 1) rest) × AreFrom job.deal (length b + 1) rest
    × (length b + (1 + length rest) ≡ length job.deal.graph.arcs)
ledger_ends job b h ls t k =
    let long = push_length b h in
    let count = k.count in (
      k.rest,
      k.read ∙ ap (whole job) (append_assoc b (h ∷ []) k.rest),
      k.lines ∙ ap (λ (a : ℕ). lines_from_arc a k.rest) long,
      subst (λ (a : ℕ). AreFrom job.deal a k.rest) long k.stated,
      omega arith,
    )

-- one entry before those that were read
entry_before : (job : Job) (b : Histories) (h : List Entry) (e : Entry) (more : ℕ) (l : List ℕ) (ls : List (List ℕ)) (t : BookSoFar)
    → parse_next_entry job.deal (length b) h l ≡ Ok e → FromEntries job b (h ++ e ∷ []) more ls t → FromEntries job b h (suc more) (l ∷ ls) t
entry_before job b h e more l ls t is k =
    let one = entry_is job.deal (length b) h l e is in
    let many = k.many in record {
      entries = e ∷ k.entries;
      rest = k.rest;
      read = k.read ∙ ap (λ (x : List Entry). whole job (b ++ x ∷ k.rest)) (append_assoc h (e ∷ []) k.entries);
      lines = ap₂ (λ (x : List ℕ) (xs : List (List ℕ)). x ∷ xs) one.line_is k.lines;
      many = omega arith;
      formed = (one.formed, k.formed);
      statable = all_cons e k.entries one.statable k.statable;
      stated = k.stated;
      count = k.count;
    }

-- no entry is to come
none_come : (job : Job) (b : Histories) (h : List Entry) (ls : List (List ℕ)) (t : BookSoFar) → FromLedger job (b ++ h ∷ []) ls t
    → FromEntries job b h 0 ls t
none_come job b h ls t k =
    let after = ledger_ends job b h ls t k in record {
      entries = [];
      rest = after.0;
      read = after.1 ∙ ap (λ (x : List Entry). whole job (b ++ x ∷ after.0)) (sym (append-nil h));
      lines = after.2;
      many = refl;
      formed = tt;
      statable = none_all;
      stated = after.3;
      count = after.4;
    }

-- the line of a ledger, and then its entries
ledger_begins : (job : Job) (b : Histories) (n : ℕ) (l : List ℕ) (ls : List (List ℕ)) (t : BookSoFar) → parse_limited_count (length b) l ≡ Ok n
    → FromEntries job b [] n ls t → FromLedger job b (l ∷ ls) t
ledger_begins job b n l ls t is k =
    let one = count_is (length b) l n is in
    let many = k.many in
    let all = k.count in record {
      rest = k.entries ∷ k.rest;
      read = k.read;
      lines = ap₂ (λ (x : List ℕ) (xs : List (List ℕ)). x ∷ xs) (one.0 ∙ ap (count_line (length b)) (sym many)) k.lines;
      stated = (k.formed, k.statable, (let few = one.1 in omega arith), k.stated);
      count = omega arith;
    }

-- nothing is read after the last line
nothing_after : (s t : BookSoFar) (ls : List (List ℕ)) → s.place ≡ Over → steps line_read s ls ≡ Ok t → (ls ≡ []) × (s ≡ t)
unfolding steps
nothing_after s t [] over e = (refl, ok_is s t e)
nothing_after s t (l ∷ ls) over e = absurd (by over e)
  where
    by : s.place ≡ Over → (line_read s l >>= λ u. steps line_read u ls) ≡ Ok t → ⊥
    by q k = cc (rw q at k)

-- some entries are to come
still : (m : ℕ) (s : BookSoFar) → with_whole (suc m == 0) s ≡ s
still m s = ap (λ t. with_whole t s) (ne_eqb (suc m) 0 (λ e. absurd (omega (arith, e))))

pub begun_some : (job : Job) (b : Histories) (m : ℕ) → with_next_ledger (at_ledger job b) (suc m) ≡ in_ledger job b [] (suc m)
begun_some job b m = still m (in_ledger job b [] (suc m))

pub one_left : (job : Job) (b : Histories) (h : List Entry) (m : ℕ) (x : Entry)
    → with_next_entry (in_ledger job b h (suc (suc m))) x ≡ in_ledger job b (h ++ x ∷ []) (suc m)
one_left job b h m x =
    let one : ◌≡◌ {A = ℕ} (suc (suc m) - 1) (suc m) = omega arith in
    ap (λ n. with_whole (n == 0) (in_ledger job b (h ++ x ∷ []) n)) one ∙ still m (in_ledger job b (h ++ x ∷ []) (suc m))

-- a ledger is begun
begins : (job : Job) (b : Histories) (ls : List (List ℕ)) (t : BookSoFar) (n : ℕ)
    → ((m : ℕ) → steps line_read (in_ledger job b [] (suc m)) ls ≡ Ok t → FromEntries job b [] (suc m) ls t)
    → (steps line_read (at_ledger job (b ++ [] ∷ [])) ls ≡ Ok t → FromLedger job (b ++ [] ∷ []) ls t)
    → steps line_read (with_next_ledger (at_ledger job b) n) ls ≡ Ok t → FromEntries job b [] n ls t
begins job b ls t zero some none k = none_come job b [] ls t (none k)
begins job b ls t (suc m) some none k = some m (ap (λ (s : BookSoFar). steps line_read s ls) (sym (begun_some job b m)) ∙ k)

-- one more entry is read
goes_on : (job : Job) (b : Histories) (h : List Entry) (ls : List (List ℕ)) (t : BookSoFar) (x : Entry) (more : ℕ)
    → ((m : ℕ) → steps line_read (in_ledger job b (h ++ x ∷ []) (suc m)) ls ≡ Ok t → FromEntries job b (h ++ x ∷ []) (suc m) ls t)
    → (steps line_read (at_ledger job (b ++ (h ++ x ∷ []) ∷ [])) ls ≡ Ok t → FromLedger job (b ++ (h ++ x ∷ []) ∷ []) ls t)
    → steps line_read (with_next_entry (in_ledger job b h (suc more)) x) ls ≡ Ok t → FromEntries job b (h ++ x ∷ []) more ls t
goes_on job b h ls t x zero some none k = none_come job b (h ++ x ∷ []) ls t (none k)
goes_on job b h ls t x (suc m) some none k = some m (ap (λ (s : BookSoFar). steps line_read s ls) (sym (one_left job b h m x)) ∙ k)

-- the last line is read
all_ends : (job : Job) (b : Histories) (l : List ℕ) (ls : List (List ℕ)) (t : BookSoFar) → length b ≡ length job.deal.graph.arcs
    → (end_line_read (at_ledger job b) l >>= λ u. steps line_read u ls) ≡ Ok t → FromLedger job b (l ∷ ls) t
all_ends job b l ls t all k =
    let p = went (end_line_read (at_ledger job b) l) (λ u. steps line_read u ls) t k in
    let q = if_ok (bytes_eq l (codes "end")) (Ok (whole job b)) p.0 p.1 in
    let same : whole job b ≡ p.0 = ok_is (whole job b) p.0 q.1 in
    let last = nothing_after p.0 t ls (ap (λ (s : BookSoFar). s.place) (sym same)) p.2 in record {
      rest = [];
      read = sym last.1 ∙ sym same ∙ ap (whole job) (sym (append-nil b));
      lines = ap₂ (λ (x : List ℕ) (xs : List (List ℕ)). x ∷ xs) (bytes_eq-true l (codes "end") q.0) last.0;
      stated = tt;
      count = omega arith;
    }

-- the next line is that of a ledger, or the last one
ledger_on : (job : Job) (b : Histories) (l : List ℕ) (ls : List (List ℕ)) (t : BookSoFar) → length b ≤ length job.deal.graph.arcs
    → (length b < length job.deal.graph.arcs → (m : ℕ) → steps line_read (in_ledger job b [] (suc m)) ls ≡ Ok t → FromEntries job b [] (suc m) ls t)
    → (length b < length job.deal.graph.arcs → steps line_read (at_ledger job (b ++ [] ∷ [])) ls ≡ Ok t → FromLedger job (b ++ [] ∷ []) ls t)
    → (ledger_read (at_ledger job b) l >>= λ u. steps line_read u ls) ≡ Ok t → FromLedger job b (l ∷ ls) t
unfolding ledger_read
ledger_on job b l ls t le some none e = by (nat_lt (length b) (length job.deal.graph.arcs)) refl e
  where
    by : (test : Bool) → nat_lt (length b) (length job.deal.graph.arcs) ≡ test
        → (cond test (parse_limited_count (length b) l >>= λ n. Ok (with_next_ledger (at_ledger job b) n)) (end_line_read (at_ledger job b) l) >>= λ u. steps line_read u ls)
        ≡ Ok t
        → FromLedger job b (l ∷ ls) t
    by true q k =
        let lt : length b < length job.deal.graph.arcs = ltb-true (length b) (length job.deal.graph.arcs) q in
        let p = went (parse_limited_count (length b) l >>= λ n. Ok (with_next_ledger (at_ledger job b) n)) (λ u. steps line_read u ls) t k in
        let r = went (parse_limited_count (length b) l) (λ n. Ok (with_next_ledger (at_ledger job b) n)) p.0 p.1 in
        let same : with_next_ledger (at_ledger job b) r.0 ≡ p.0 = ok_is (with_next_ledger (at_ledger job b) r.0) p.0 r.2 in
        ledger_begins job b r.0 l ls t r.1 (begins job b ls t r.0 (some lt) (none lt) (ap (λ (u : BookSoFar). steps line_read u ls) same ∙ p.2))
    by false q k =
        let ge : length job.deal.graph.arcs ≤ length b = ltb-false (length b) (length job.deal.graph.arcs) q in
        all_ends job b l ls t (omega arith) k

-- the next line is that of an entry
entry_on : (job : Job) (b : Histories) (h : List Entry) (more : ℕ) (l : List ℕ) (ls : List (List ℕ)) (t : BookSoFar)
    → ((x : Entry) (m : ℕ) → steps line_read (in_ledger job b (h ++ x ∷ []) (suc m)) ls ≡ Ok t → FromEntries job b (h ++ x ∷ []) (suc m) ls t)
    → ((x : Entry) → steps line_read (at_ledger job (b ++ (h ++ x ∷ []) ∷ [])) ls ≡ Ok t → FromLedger job (b ++ (h ++ x ∷ []) ∷ []) ls t)
    → (entry_read (in_ledger job b h (suc more)) l >>= λ u. steps line_read u ls) ≡ Ok t → FromEntries job b h (suc more) (l ∷ ls) t
unfolding entry_read
entry_on job b h more l ls t some none e =
    let s = in_ledger job b h (suc more) in
    let p = went (parse_next_entry job.deal (length b) h l >>= λ x. Ok (with_next_entry s x)) (λ u. steps line_read u ls) t e in
    let r = went (parse_next_entry job.deal (length b) h l) (λ x. Ok (with_next_entry s x)) p.0 p.1 in
    let same : with_next_entry s r.0 ≡ p.0 = ok_is (with_next_entry s r.0) p.0 r.2 in
    entry_before job b h r.0 more l ls t r.1
    (goes_on job b h ls t r.0 more (some r.0) (none r.0) (ap (λ (u : BookSoFar). steps line_read u ls) same ∙ p.2))

-- there is an arc for what is read
abbrev HasArc : Job → Histories → ℕ → Type 0
HasArc job b zero = length b ≤ length job.deal.graph.arcs
HasArc job b (suc more) = length b < length job.deal.graph.arcs

more_arcs : (job : Job) (b : Histories) (h : List Entry) → length b < length job.deal.graph.arcs → HasArc job (b ++ h ∷ []) 0
more_arcs job b h lt = let long = push_length b h in omega arith

continue_reading : (job : Job) (b : Histories) (h : List Entry) (more : ℕ) (ls : List (List ℕ)) (t : BookSoFar) → t.place ≡ Over → HasArc job b more
    → steps line_read (at_place job b h more) ls ≡ Ok t → From job b h more ls t
unfolding steps
continue_reading job b h zero [] t over arc e = absurd (cc (ap (λ (s : BookSoFar). s.place) (ok_is (at_ledger job b) t e) ∙ over))
continue_reading job b h (suc more) [] t over arc e = absurd (cc (ap (λ (s : BookSoFar). s.place) (ok_is (in_ledger job b h (suc more)) t e) ∙ over))
continue_reading job b h zero (l ∷ ls) t over arc e =
    ledger_on job b l ls t arc (λ lt m. continue_reading job b [] (suc m) ls t over lt) (λ lt. continue_reading job (b ++ []
    ∷ []) [] zero ls t over (more_arcs job b [] lt)) e
continue_reading job b h (suc more) (l ∷ ls) t over arc e =
    entry_on job b h more l ls t (λ x m. continue_reading job b (h ++ x ∷ []) (suc m) ls t over arc)
    (λ x. continue_reading job (b ++ (h ++ x ∷ []) ∷ []) [] zero ls t over (more_arcs job b (h ++ x ∷ []) arc)) e

pub read_is_whole : ReadIsWhole
read_is_whole job ls t e over =
    let k = continue_reading job [] [] 0 ls t over (omega arith) e in
    let book : t.book ≡ k.rest = ap (λ (s : BookSoFar). s.book) k.read in
    let count = k.count in record {
      read = k.read ∙ ap (whole job) (sym book);
      lines = k.lines ∙ ap (lines_from_arc 0) (sym book);
      stated = subst (IsStated job.deal) (sym book) (are_stated job.deal k.rest (omega arith) k.stated);
    }
