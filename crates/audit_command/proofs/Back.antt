-- A whole transcript gives its job and its book.
use Rattle.std.proofs.Common.{◌≡◌, ◌==◌, ◌+◌, ◌-◌, ◌≤◌, ℕ, nat_lt, Bool, true, false, not, cond, List, [], ◌∷◌, ◌++◌}
use Rattle.std.proofs.Common.{length, Some, Result, Ok, Err, refl, ap, ◌∙◌, subst, arith, append_assoc, length-append, le-ltb}
use Rattle.std.specs.Prelude.{codes}
use Rattle.std.specs.List.{list_all, AllByRecursion}
use Rattle.swap_base.specs.Fault.{◌>>=◌, steps}
use Rattle.swap_base.proofs.Lists.{and_parts}
use Rattle.ledger_core.specs.Book.{Histories}
use Rattle.swap_job.specs.declared.job.Job.{Job}
use Rattle.command_input.specs.declared.refusal.Refusal.{Refusal}
use Rattle.transcript_book.specs.declared.said.Misspelling.{Misspelling}
use Rattle.transcript_book.specs.Between.{fed_lines, longer_first, separated_parts}
use Rattle.transcript_book.specs.Lines.{lines_from_arc}
use Rattle.transcript_book.specs.Stages.{BookSoFar, line_read, no_ledgers}
use Rattle.transcript_book.specs.Books.{whole}
use Rattle.transcript_book.proofs.Complete.{few_arcs, stated_from, whole_is_read}
use Rattle.transcript_book.proofs.OneLine.{IsOneLine, book_lines}
use Rattle.command_input.specs.Input.{limit}
use Rattle.audit_command.specs.declared.reason.TranscriptReason.{TranscriptReason}
use Rattle.audit_command.specs.declared.reason.TranscriptReason.TheVariants.{TooLong}
use Rattle.audit_command.specs.declared.stage.Stage.TheVariants.{Header, Ledgers}
use Rattle.audit_command.specs.Stages.{Progress, ledgers_stage, headed_stage, more_bytes, next_line_number, no_lines, next_stage, with_line}
use Rattle.audit_command.specs.TranscriptReading.{Story, story_at_end, parts_read, transcript_read}
use Rattle.audit_command.specs.Laws.{WholeTextIsRead, job_or_none}
use Rattle.audit_command.proofs.Whole.{at_stage}

-- the parts of lines, each with its line feed

pub not_feed : (t : Bool) → not t ≡ true → t ≡ false
not_feed true e = absurd (cc e)
not_feed false e = refl

part_of_line : (l rest : List ℕ) → IsOneLine l → separated_parts 10 (l ++ 10 ∷ rest) ≡ l ∷ separated_parts 10 rest
part_of_line [] rest h = refl
part_of_line (x ∷ l) rest h =
    let p = and_parts (not (x == 10)) (list_all (λ y. not (y == 10)) l) h in
    ap (λ t. cond t ([] ∷ separated_parts 10 (l ++ 10 ∷ rest)) (longer_first x (separated_parts 10 (l ++ 10 ∷ rest)))) (not_feed (x == 10) p.0)
    ∙ ap (longer_first x) (part_of_line l rest p.1)

pub parts_of_lines : (ls : List (List ℕ)) → AllByRecursion IsOneLine ls → separated_parts 10 (fed_lines ls) ≡ ls ++ [] ∷ []
parts_of_lines [] h = refl
parts_of_lines (l ∷ ls) h =
    ap (separated_parts 10) (append_assoc l (10 ∷ []) (fed_lines ls)) ∙ part_of_line l (fed_lines ls) h.0 ∙ ap (λ (ps : List (List ℕ)). l ∷ ps) (parts_of_lines ls h.1)

-- ---- the bytes that were counted

counted : (n k : ℕ) → more_bytes n k ≤ n + k
counted n k = omega arith

short : {A : Type 0} (m : ℕ) (r : Result A TranscriptReason) → m ≤ limit → cond (nat_lt limit m) (Err TooLong) r ≡ r
short m r le = ap (λ t. cond t (Err TooLong) r) (le-ltb limit m le)

-- ---- the ledgers

abbrev story : Job → Histories → Story
story job b = record { job = job; book = b }

ok_is : (x y : BookSoFar) → ◌≡◌ {A = Result BookSoFar Misspelling} (Ok x) (Ok y) → x ≡ y
ok_is x y q = cc

read_after : (header : List ℕ → Result Job Refusal) (p : Progress) (l : List ℕ) (ls : List (List ℕ))
    → parts_read header p (l ∷ (ls ++ [] ∷ [])) ≡ parts_read header (with_line header p l) (ls ++ [] ∷ [])
read_after header p l [] = refl
read_after header p l (k ∷ ks) = refl

ended_length : (l : List ℕ) (ls : List (List ℕ)) → length (fed_lines (l ∷ ls)) ≡ length l + 1 + length (fed_lines ls)
ended_length l ls = length-append (l ++ 10 ∷ []) (fed_lines ls) ∙ ap (λ n. n + length (fed_lines ls)) (length-append l (10 ∷ []))

ledgers_back : (header : List ℕ → Result Job Refusal) (s : BookSoFar) (n m : ℕ) (ls : List (List ℕ)) (job : Job) (b : Histories)
    → steps line_read s ls ≡ Ok (whole job b) → m + length (fed_lines ls) ≤ limit
    → parts_read header (at_stage (Ledgers s) n m) (ls ++ [] ∷ []) ≡ Ok (story job b)
unfolding next_stage steps
ledgers_back header s n m [] job b e le =
    let same : s ≡ whole job b = ok_is s (whole job b) e in
    ap (λ (u : BookSoFar). story_at_end (at_stage (Ledgers u) n m) []) same
    ∙ short (more_bytes m 0) (Ok (story job b)) (let c = counted m 0 in omega arith)
ledgers_back header s n m (l ∷ ls) job b e le = by (line_read s l) refl e (λ u. ledgers_back header u (next_line_number n) (more_bytes m (length l + 1)) ls job b)
  where
    by : (r : Result BookSoFar Misspelling) → line_read s l ≡ r → (r >>= λ u. steps line_read u ls) ≡ Ok (whole job b)
        → ((u : BookSoFar) → steps line_read u ls ≡ Ok (whole job b) → more_bytes m (length l + 1) + length (fed_lines ls) ≤ limit
        → parts_read header (at_stage (Ledgers u) (next_line_number n) (more_bytes m (length l + 1))) (ls ++ [] ∷ []) ≡ Ok (story job b))
        → parts_read header (at_stage (Ledgers s) n m) (l ∷ (ls ++ [] ∷ [])) ≡ Ok (story job b)
    by (Ok u) q k more =
        read_after header (at_stage (Ledgers s) n m) l ls
        ∙ ap (λ (r : Result BookSoFar Misspelling). parts_read header (at_stage (ledgers_stage (next_line_number n) r) (next_line_number n) (more_bytes m (length l + 1)))
        (ls ++ [] ∷ [])) q
        ∙ more u k (let c = counted m (length l + 1) in omega (arith, ended_length l ls))
    by (Err f) q k more = absurd (cc k)

-- ---- the whole

ok_job : (r : Result Job Refusal) (job : Job) → job_or_none r ≡ Some job → r ≡ Ok job
ok_job (Ok j) job e = ap (λ (x : Job). Ok x) (some_is j job e)
  where
    some_is : (x y : Job) → Some x ≡ Some y → x ≡ y
    some_is x y q = cc
ok_job (Err refusal) job e = absurd (cc e)

lines_back : (header : List ℕ → Result Job Refusal) (line : List ℕ) (ls : List (List ℕ)) (job : Job) (b : Histories) → header line ≡ Ok job
    → steps line_read (no_ledgers job) ls ≡ Ok (whole job b) → length (fed_lines (codes "swap transcript 1" ∷ line ∷ ls)) ≤ limit
    → parts_read header no_lines (codes "swap transcript 1" ∷ line ∷ (ls ++ [] ∷ [])) ≡ Ok (story job b)
unfolding next_stage
lines_back header line ls job b gives e le =
    read_after header (at_stage Header (next_line_number 0) (more_bytes 0 (length (codes "swap transcript 1") + 1))) line ls
    ∙ ap (λ (r : Result Job Refusal). parts_read header (at_stage (headed_stage r) (next_line_number (next_line_number 0)) (more_bytes (more_bytes 0
    (length (codes "swap transcript 1") + 1)) (length line + 1))) (ls ++ [] ∷ [])) gives
    ∙ ledgers_back header (no_ledgers job) (next_line_number (next_line_number 0)) (more_bytes (more_bytes 0 (length (codes "swap transcript 1") + 1)) (length line + 1)) ls
    job b e (let one = counted 0 (length (codes "swap transcript 1") + 1) in let two = counted (more_bytes 0 (length (codes "swap transcript 1") + 1))
    (length line + 1) in omega (arith, ended_length (codes "swap transcript 1") (line ∷ ls), ended_length line ls))

pub whole_text_is_read : WholeTextIsRead
unfolding transcript_read
whole_text_is_read header all job b w sized feedless le =
    let ls = lines_from_arc 0 b in
    let few = few_arcs job.deal sized in
    let count = w.stated.formed.one_each in
    let one_lines : AllByRecursion IsOneLine (codes "swap transcript 1" ∷ w.header ∷ ls) =
    (refl, (feedless, book_lines job.deal 0 b (stated_from job.deal b w.stated) (omega arith))) in
    ap (λ (x : List (List ℕ)). parts_read header no_lines (separated_parts 10 (fed_lines x))) w.lines
    ∙ ap (parts_read header no_lines) (parts_of_lines (codes "swap transcript 1" ∷ w.header ∷ ls) one_lines)
    ∙ lines_back header w.header ls job b (ok_job (header w.header) job w.gives) (whole_is_read job b sized w.stated)
    (subst (λ (x : List (List ℕ)). length (fed_lines x) ≤ limit) w.lines le)
