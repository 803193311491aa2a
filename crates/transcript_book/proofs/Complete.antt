-- The lines of each book that a transcript can state are read as that book.
use Rattle.std.proofs.Common.{◌≡◌, ◌==◌, ◌+◌, ◌^◌, ◌≤◌, ◌<◌, ℕ, suc, nat_le, nat_lt, false, cond, List, [], ◌∷◌, ◌++◌, length, map}
use Rattle.std.proofs.Common.{get_or, decimal, Result, Ok, refl, sym, ap, ◌∙◌, subst, arith, append_assoc, append-nil, length-append, lt-ltb, le-leb}
use Rattle.std.proofs.Common.{eq-eqb, le-ltb}
use Rattle.std.specs.Prelude.{All, codes}
use Rattle.swap_base.specs.Fault.{◌>>=◌, steps}
use Rattle.swap_base.proofs.Lists.{and_both}
use Rattle.swap_digraph.specs.declared.deal.Deal.{Deal}
use Rattle.swap_digraph.specs.declared.deal.Version.{Version}
use Rattle.swap_digraph.specs.declared.deal.Version.TheVariants.{One, Two}
use Rattle.swap_digraph.specs.Deal.{IsWellSized, most_arcs, touches}
use Rattle.escrow_core.specs.declared.reply.Reply.{Reply}
use Rattle.ledger_core.specs.declared.entry.Sender.{Sender}
use Rattle.ledger_core.specs.declared.entry.Sender.TheVariants.{Party, Clock}
use Rattle.ledger_core.specs.declared.entry.What.{What}
use Rattle.ledger_core.specs.declared.entry.What.TheVariants.{Call as Made, Tick}
use Rattle.ledger_core.specs.declared.entry.Entry.{Entry}
use Rattle.ledger_core.specs.History.{height, fit}
use Rattle.ledger_core.specs.Ledger.{call_entry, tick_entry}
use Rattle.ledger_core.specs.Book.{Histories}
use Rattle.swap_job.specs.declared.job.Job.{Job}
use Rattle.ledger_core.specs.WellFormed.{IsFormedContinuation, IsFormedWhat, IsFormedEntry, written_height}
use Rattle.transcript_book.specs.declared.said.Misspelling.{Misspelling}
use Rattle.transcript_book.specs.Lines.{IsStatable, IsStated, entry_line, ledger_lines, lines_from_arc}
use Rattle.transcript_book.specs.Reading.{parse_first_field, line_said, misspelt, bounded_number, decimal_number}
use Rattle.transcript_book.proofs.Numbers.{below_back, high_number, number_back}
use Rattle.transcript_book.proofs.SeparatedParts.{high_too, parts_between}
use Rattle.transcript_book.proofs.Spelling.{field_back}
use Rattle.transcript_book.proofs.Stories.{entry_says, inside_said}
use Rattle.transcript_book.specs.Counts.{parse_limited_count, just, ledger_word, words_count}
use Rattle.transcript_book.specs.Entries.{parse_entry, parse_next_entry, placed_entry}
use Rattle.transcript_book.specs.Stages.{BookSoFar, with_next_ledger, end_line_read, entry_read, with_next_entry, ledger_read, line_read}
use Rattle.transcript_book.specs.Books.{WholeIsRead, whole}
use Rattle.transcript_book.proofs.Heights.{held_again}
use Rattle.transcript_book.proofs.Placed.{count_line}
use Rattle.transcript_book.proofs.Sound.{AreFrom, at_ledger, begun_some, in_ledger, one_left}

-- the step was read
stepped : {A B : Type 0} (r : Result A Misspelling) (x : A) (f : A → Result B Misspelling) → r ≡ Ok x → (r >>= f) ≡ f x
stepped r x f e = ap (λ (q : Result _ Misspelling). q >>= f) e

-- ---- the line before the entries of an arc

word_back : (ws : List (List ℕ)) → parse_first_field ledger_word (codes "ledger" ∷ ws) ≡ Ok (tt, ws)
word_back ws = field_back ledger_word (codes "ledger") tt ws refl

just_back : (a : ℕ) → a < 2 ^ 64 → just a (decimal a) ≡ Ok tt
just_back a lt = stepped (decimal_number (decimal a)) a (λ n. cond (n == a) (Ok tt) misspelt) (number_back a lt)
    ∙ ap (λ t. cond t (Ok tt) misspelt) (eq-eqb a a refl)

words_back : (a n : ℕ) → a < 2 ^ 64 → n ≤ 20064 → words_count a (codes "ledger" ∷ decimal a ∷ decimal n ∷ []) ≡ Ok n
unfolding words_count
words_back a n lt le =
    stepped _ (tt, decimal a ∷ decimal n ∷ []) _ (word_back (decimal a ∷ decimal n ∷ []))
    ∙ stepped _ (tt, decimal n ∷ []) _ (field_back (just a) (decimal a) tt (decimal n ∷ []) (just_back a lt))
    ∙ stepped _ (n, []) _ (field_back (bounded_number 20065) (decimal n) n [] (below_back 20065 n (omega arith) (omega arith)))

count_back : (a n : ℕ) → a < 2 ^ 64 → n ≤ 20064 → parse_limited_count a (count_line a n) ≡ Ok n
unfolding parse_limited_count
count_back a n lt le =
    ap (words_count a) (parts_between 32 33 (codes "ledger") (decimal a ∷ decimal n ∷ []) (omega arith) refl (
      high_too 33 48 (decimal a) (omega arith) (high_number a lt),
      (high_too 33 48 (decimal n) (omega arith) (high_number n (omega arith)), tt),
    ))
    ∙ words_back a n lt le

-- ---- entries

-- an entry that has the form is placed as it is
pub placed_back : (d : Deal) (a : ℕ) (past : List Entry) (s : Sender) (w : What) (reply : Reply) (at : ℕ) → IsFormedWhat d a past s w at
    → placed_entry d a (written_height (height past)) reply s w ≡ Ok (record { sender = s; height = at; what = w; reply = reply })
placed_back d a past (Party p) (Made c) reply at f =
    ap (λ t. cond t (Ok (call_entry p (written_height (height past)) c reply)) misspelt) (and_both (touches d p a) (fit d a c) f.of_the_two f.fits)
    ∙ ap (λ (h : ℕ). Ok (call_entry p h c reply)) (sym f.height)
placed_back d a past Clock (Tick k) reply at f =
    ap (λ t. cond t (Ok (tick_entry k (written_height (written_height (height past) + k)) reply)) misspelt)
    (and_both (nat_le 1 k) (nat_le k 1000000) (le-leb 1 k f.some) (le-leb k 1000000 f.below))
    ∙ ap (λ (h : ℕ). Ok (tick_entry k h reply)) (held_again (height past) k ∙ sym f.height)
placed_back d a past (Party p) (Tick k) reply at f = absurd f
placed_back d a past Clock (Made c) reply at f = absurd f

-- an entry is read from its line
pub entry_back : (d : Deal) (a : ℕ) (past : List Entry) (e : Entry) → IsFormedEntry d a past e → IsStatable e → parse_next_entry d a past (entry_line e) ≡ Ok e
unfolding parse_entry
entry_back d a past e f k =
    stepped (line_said (length d.leaders) (entry_line e)) (inside_said e) _ (entry_says d a past e f k)
    ∙ placed_back d a past e.sender e.what e.reply e.height f.what

-- ---- ledgers

rest_of : (e : Entry) (h : List Entry) → All IsStatable (e ∷ h) → All IsStatable h
rest_of e h k i d lt = k (suc i) d (omega arith)

-- the entries of a ledger, at least one
entries_back : (job : Job) (b : Histories) (h : List Entry) (e : Entry) (more : List Entry) (ls : List (List ℕ)) → IsFormedContinuation job.deal (length b) h (e ∷ more)
    → All IsStatable (e ∷ more)
    → steps line_read (in_ledger job b h (suc (length more))) (map entry_line (e ∷ more) ++ ls) ≡ steps line_read (at_ledger job (b ++ (h ++ e ∷ more) ∷ [])) ls
unfolding steps entry_read
entries_back job b h e [] ls f k =
    stepped _ (with_next_entry (in_ledger job b h 1) e) _
    (stepped (parse_next_entry job.deal (length b) h (entry_line e)) e _ (entry_back job.deal (length b) h e f.0 (k 0 e (omega arith))))
entries_back job b h e (x ∷ more) ls f k =
    stepped _ (with_next_entry (in_ledger job b h (suc (suc (length more)))) e) _
    (stepped (parse_next_entry job.deal (length b) h (entry_line e)) e _ (entry_back job.deal (length b) h e f.0 (k 0 e (omega arith))))
    ∙ ap (λ (s : BookSoFar). steps line_read s (map entry_line (x ∷ more) ++ ls)) (one_left job b h (length more) e)
    ∙ entries_back job b (h ++ e ∷ []) x more ls f.1 (rest_of e (x ∷ more) k)
    ∙ ap (λ (l : List Entry). steps line_read (at_ledger job (b ++ l ∷ [])) ls) (append_assoc h (e ∷ []) (x ∷ more))

ledger_begun : (job : Job) (b : Histories) (n : ℕ) (ls : List (List ℕ)) → length b < length job.deal.graph.arcs → length b < 2 ^ 64 → n ≤ 20064
    → steps line_read (at_ledger job b) (count_line (length b) n ∷ ls) ≡ steps line_read (with_next_ledger (at_ledger job b) n) ls
unfolding steps ledger_read
ledger_begun job b n ls lt small le =
    stepped _ (with_next_ledger (at_ledger job b) n) (λ u. steps line_read u ls)
    (ap (λ t. cond t (parse_limited_count (length b) (count_line (length b) n) >>= λ m. Ok (with_next_ledger (at_ledger job b) m))
    (end_line_read (at_ledger job b) (count_line (length b) n)))
    (lt-ltb (length b) (length job.deal.graph.arcs) lt)
    ∙ stepped (parse_limited_count (length b) (count_line (length b) n)) n _ (count_back (length b) n small le))

ledger_back : (job : Job) (b : Histories) (h : List Entry) (ls : List (List ℕ)) → length b < length job.deal.graph.arcs → length b < 2 ^ 64
    → IsFormedContinuation job.deal (length b) [] h → All IsStatable h → length h ≤ 20064
    → steps line_read (at_ledger job b) (ledger_lines (length b) h ++ ls) ≡ steps line_read (at_ledger job (b ++ h ∷ [])) ls
ledger_back job b [] ls lt small f k few = ledger_begun job b 0 ls lt small few
ledger_back job b (e ∷ h) ls lt small f k few =
    ledger_begun job b (suc (length h)) (map entry_line (e ∷ h) ++ ls) lt small few
    ∙ ap (λ (s : BookSoFar). steps line_read s (map entry_line (e ∷ h) ++ ls)) (begun_some job b (length h)) ∙ entries_back job b [] e h ls f k

-- ---- books

end_back : (job : Job) (b : Histories) → length b ≡ length job.deal.graph.arcs → steps line_read (at_ledger job b) (codes "end" ∷ []) ≡ Ok (whole job b)
unfolding steps ledger_read
end_back job b all =
    stepped _ (whole job b) (λ u. Ok u)
    (ap (λ t. cond t (parse_limited_count (length b) (codes "end") >>= λ m. Ok (with_next_ledger (at_ledger job b) m)) (end_line_read (at_ledger job b) (codes "end"))) (not_less all))
  where
    not_less : length b ≡ length job.deal.graph.arcs → nat_lt (length b) (length job.deal.graph.arcs) ≡ false
    not_less e = le-ltb (length b) (length job.deal.graph.arcs) (omega arith)

book_back : (job : Job) (b rest : Histories) → length b + length rest ≡ length job.deal.graph.arcs → length job.deal.graph.arcs < 2 ^ 64
    → AreFrom job.deal (length b) rest → steps line_read (at_ledger job b) (lines_from_arc (length b) rest) ≡ Ok (whole job (b ++ rest))
book_back job b [] all small k = end_back job b (omega arith) ∙ ap (λ (c : Histories). Ok (whole job c)) (sym (append-nil b))
book_back job b (h ∷ rest) all small k =
    let long : length (b ++ h ∷ []) ≡ length b + 1 = length-append b (h ∷ []) in
    ledger_back job b h (lines_from_arc (length b + 1) rest) (omega arith) (omega arith) k.0 k.1 k.2
    ∙ ap (λ (a : ℕ). steps line_read (at_ledger job (b ++ h ∷ [])) (lines_from_arc a rest)) (sym long)
    ∙ book_back job (b ++ h ∷ []) rest (omega arith) small (subst (λ (a : ℕ). AreFrom job.deal a rest) (sym long) k.3)
    ∙ ap (λ (c : Histories). Ok (whole job c)) (append_assoc b (h ∷ []) rest)

are_from : (d : Deal) (a : ℕ) (b : Histories) → ((i : ℕ) → i < length b → IsFormedContinuation d (a + i) [] (get_or b i []))
    → ((i : ℕ) → i < length b → All IsStatable (get_or b i [])) → ((i : ℕ) → i < length b → length (get_or b i []) ≤ 20064) → AreFrom d a b
are_from d a [] f k l = tt
are_from d a (h ∷ b) f k l = (
  (let z : ◌≡◌ {A = ℕ} (a + 0) a = omega arith in subst (λ (j : ℕ). IsFormedContinuation d j [] h) z (f 0 (omega arith))),
  k 0 (omega arith),
  l 0 (omega arith),
  are_from d (a + 1) b (λ i lt. let z : ◌≡◌ {A = ℕ} (a + suc i) (a + 1 + i) = omega arith in
      subst (λ (j : ℕ). IsFormedContinuation d j [] (get_or b i [])) z (f (suc i) (omega arith))) (λ i lt. k (suc i) (omega arith)) (λ i lt. l (suc i) (omega arith)),
)

pub few_arcs : (d : Deal) → IsWellSized d → length d.graph.arcs < 2 ^ 64
few_arcs d k = by d.version k.arcs.1
  where
    by : (v : Version) → length d.graph.arcs ≤ most_arcs v → length d.graph.arcs < 2 ^ 64
    by One le = omega arith
    by Two le = omega arith

pub stated_from : (d : Deal) (b : Histories) → IsStated d b → AreFrom d 0 b
stated_from d b k =
    let formed : (i : ℕ) → i < length b → IsFormedContinuation d (0 + i) [] (get_or b i []) =
    λ i lt. let z : ◌≡◌ {A = ℕ} i (0 + i) = omega arith in subst (λ (j : ℕ). IsFormedContinuation d j [] (get_or b i [])) z (k.formed.formed i lt) in
    are_from d 0 b formed k.statable k.few

pub whole_is_read : WholeIsRead
whole_is_read job b sized k =
    let count = k.formed.one_each in
    book_back job [] b (omega arith) (few_arcs job.deal sized) (stated_from job.deal b k)
