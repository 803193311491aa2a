-- The parts of a transcript's text.
use Rattle.std.proofs.Common.{◌≡◌, ℕ, ◌+◌, List, [], ◌∷◌, ◌++◌, map, codes, refl, sym, ap, ap₂, ◌∙◌, append_assoc, append-nil}
use Rattle.std.proofs.lemmas.Grind.{flat_map-append}
use Rattle.swap_base.specs.Text.{lines}
use Rattle.ledger_core.specs.declared.entry.Entry.{Entry}
use Rattle.ledger_core.specs.declared.runs.Item.{Item}
use Rattle.ledger_core.specs.Book.{Histories}
use Rattle.ledger_core.specs.Runs.{ledger_entries, expand}
use Rattle.swap_job.specs.declared.job.Job.{Job}
use Rattle.transcript_book.specs.Between.{fed_lines}
use Rattle.transcript_book.specs.Lines.{entry_line, ledger_lines, lines_from_arc, transcript}
use Rattle.run_texts.specs.Texts.{count_text, entries_text, entry_text, head_text, item_text, ledger_text}

-- ---- entries

numbered_as : (n m : ℕ) (h : List Entry) → lines entry_text n h ≡ lines entry_text m h
unfolding lines
numbered_as n m [] = refl
numbered_as n m (e ∷ h) = ap (λ (l : List ℕ). entry_text n e ++ l) (numbered_as (n + 1) (m + 1) h)

entries_append : (n : ℕ) (h more : List Entry) → lines entry_text n (h ++ more) ≡ lines entry_text n h ++ entries_text more
unfolding lines
entries_append n [] more = numbered_as n 0 more
entries_append n (e ∷ h) more =
    ap (λ (l : List ℕ). entry_text n e ++ l) (entries_append (n + 1) h more)
    ∙ sym (append_assoc (entry_text n e) (lines entry_text (n + 1) h) (entries_text more))

-- the lines of entries are those of their items
pub of_items : (n : ℕ) (items : List Item) (last : List Entry) → lines item_text n items ++ entries_text last ≡ entries_text (expand items ++ last)
unfolding lines
of_items n [] last = refl
of_items n (i ∷ items) last =
    append_assoc (item_text n i) (lines item_text (n + 1) items) (entries_text last)
    ∙ ap (λ (l : List ℕ). item_text n i ++ l) (of_items (n + 1) items last)
    ∙ sym (ap entries_text (append_assoc (ledger_entries i) (expand items) last) ∙ entries_append 0 (ledger_entries i) (expand items ++ last))

pub of_entry : (e : Entry) → entry_text 0 e ≡ entries_text (e ∷ [])
unfolding lines
of_entry e = sym (append-nil (entry_text 0 e))

-- ---- ledgers

ended_entries : (h : List Entry) → fed_lines (map entry_line h) ≡ entries_text h
unfolding lines
ended_entries [] = refl
ended_entries (e ∷ h) = ap (λ (l : List ℕ). entry_text 0 e ++ l) (ended_entries h ∙ numbered_as 0 1 h)

pub of_ledger : (a : ℕ) (h : List Entry) → count_text a h ++ entries_text h ≡ ledger_text a h
unfolding ledger_text
of_ledger a h = refl

ended_ledger : (a : ℕ) (h : List Entry) → fed_lines (ledger_lines a h) ≡ ledger_text a h
unfolding ledger_text
ended_ledger a h = ap (λ (l : List ℕ). count_text a h ++ l) (ended_entries h)

ended_book : (a : ℕ) (b : Histories) → fed_lines (lines_from_arc a b) ≡ lines ledger_text a b ++ codes "end\n"
unfolding lines
ended_book a [] = refl
ended_book a (h ∷ b) =
    flat_map-append (λ (l : List ℕ). l ++ 10 ∷ []) (ledger_lines a h) (lines_from_arc (a + 1) b)
    ∙ ap₂ (λ (x y : List ℕ). x ++ y) (ended_ledger a h) (ended_book (a + 1) b)
    ∙ sym (append_assoc (ledger_text a h) (lines ledger_text (a + 1) b) (codes "end\n"))

-- ---- the whole

pub of_text : (job : Job) (b : Histories) → head_text job ++ (lines ledger_text 0 b ++ codes "end\n") ≡ transcript job b
unfolding transcript
of_text job b = sym (ap (λ (l : List ℕ). head_text job ++ l) (ended_book 0 b))
