-- What a wallet wrote down, a line each: the lines before the first that begins with none of these
-- words.
use Rattle.std.specs.Prelude.{ℕ, Bool, true, false, not, ◌||◌, List, [], ◌∷◌, ◌++◌, codes, Result, Ok, Err, if◌then◌else◌}
use Rattle.swap_base.specs.Fault.{◌>>=◌}
use Rattle.hashkey_path.specs.declared.hashkey.Hashkey.{Hashkey}
use Rattle.command_input.specs.declared.reason.Reason.TheVariants.{BadLine}
use Rattle.command_input.specs.declared.refusal.Refusal.{Refusal}
use Rattle.transcript_book.specs.declared.said.Misspelling.{Misspelling}
use Rattle.transcript_book.specs.Between.{separated_parts}
use Rattle.transcript_book.specs.Reading.{misspelt, bounded_number, decimal_number, lower_hex_digest, parse_signature, listed_field, parse_first_field, first_field}
use Rattle.transcript_book.specs.Reading.{is_word, nothing_more}
use Rattle.party_rows.specs.Lines.{following_line_number, nameless}
use Rattle.party_rows.specs.Digests.{this_word}
use Rattle.party_notes.specs.declared.note.Note.{Note}
use Rattle.party_notes.specs.declared.note.Note.TheVariants.{Keep, Torn, Sent, Never, Seen}

-- `by B until U`, and the fields after it: the heights are numbers that are read and not used
unfoldable pub heights_told : List (List ℕ) → Result (Unit {0} × List (List ℕ)) Misspelling
heights_told ws = do
  by ← parse_first_field (this_word (codes "by")) ws
  last ← parse_first_field decimal_number by.1
  until ← parse_first_field (this_word (codes "until")) last.1
  end ← parse_first_field decimal_number until.1
  Ok (tt, end.1)

-- `by B until U SECRET PATH SIGS`, as it was answered for that lock: a hashkey that was kept
unfoldable pub key_noted : ℕ → List (List ℕ) → Result Hashkey Misspelling
key_noted lock ws = do
  heights ← heights_told ws
  secret ← parse_first_field lower_hex_digest heights.1
  path ← parse_first_field (listed_field (bounded_number 256)) secret.1
  sigs ← parse_first_field (listed_field parse_signature) path.1
  u ← nothing_more sigs.1
  Ok (record { lock = lock; secret = secret.0; path = path.0; sigs = sigs.0 })

-- a hashkey that can't be read behind its lock is torn
abbrev pub kept_or_torn : ℕ → Result Hashkey Misspelling → Note
kept_or_torn lock (Ok key) = Keep key
kept_or_torn lock (Err e) = Torn lock

-- `LOCK`, and its hashkey
unfoldable pub keep_noted : List (List ℕ) → Result Note Misspelling
keep_noted ws = do
  lock ← parse_first_field (bounded_number 256) ws
  Ok (kept_or_torn lock.0 (key_noted lock.0 lock.1))

-- `ARC`: a publish went out on that arc, or may have
unfoldable pub sent_noted : List (List ℕ) → Result Note Misspelling
sent_noted ws = do
  arc ← parse_first_field (bounded_number 256) ws
  u ← nothing_more arc.1
  Ok (Sent arc.0)

-- `ARC`: the publishes that went out on that arc can't land
unfoldable pub never_noted : List (List ℕ) → Result Note Misspelling
never_noted ws = do
  arc ← parse_first_field (bounded_number 256) ws
  u ← nothing_more arc.1
  Ok (Never arc.0)

-- `ARC HEIGHT`: the ledger of that arc was seen at that height, which is at most 1,000,000
unfoldable pub seen_noted : List (List ℕ) → Result Note Misspelling
seen_noted ws = do
  arc ← parse_first_field (bounded_number 256) ws
  height ← parse_first_field (bounded_number 1000001) arc.1
  u ← nothing_more height.1
  Ok (Seen arc.0 height.0)

abbrev pub pick_note : List ℕ → List (List ℕ) → Result Note Misspelling
pick_note w ws =
    if is_word w (codes "keep") then keep_noted ws
    else if is_word w (codes "sent") then sent_noted ws
    else if is_word w (codes "never") then never_noted ws
    else if is_word w (codes "seen") then seen_noted ws
    else misspelt

-- what the fields of a line note
unfoldable pub words_noted : List (List ℕ) → Result Note Misspelling
words_noted ws = do
  first ← first_field ws
  pick_note first.0 first.1

abbrev pub begins_note : List (List ℕ) → Bool
begins_note [] = false
begins_note (w ∷ ws) = is_word w (codes "keep") || is_word w (codes "sent") || is_word w (codes "never") || is_word w (codes "seen")

-- the first word of the line is `keep`, `sent`, `never` or `seen`
unfoldable pub is_note : List ℕ → Bool
is_note line = begins_note (separated_parts 32 line)

-- the first of these lines, if there is one, is no note
abbrev pub no_note : List (List ℕ) → Bool
no_note [] = true
no_note (l ∷ ls) = not (is_note l)

-- a note that can't be read is passed over where it is the last: a crash tore it. Any other is a bad
-- line.
abbrev pub passed_if_last : ℕ → (behind : List (List ℕ)) → Result Note Misspelling → Result (List Note) Refusal
passed_if_last n behind (Ok x) = Ok (x ∷ [])
passed_if_last n behind (Err e) = if no_note behind then Ok [] else Err (nameless (BadLine n))

-- what the line of number n notes, with these lines behind it
unfoldable pub line_noted : ℕ → List ℕ → (behind : List (List ℕ)) → Result (List Note) Refusal
line_noted n line behind = passed_if_last n behind (words_noted (separated_parts 32 line))

-- Notes, and the number of the line behind them.
pub record NotesState : Type 0 where
  pub list : List Note
  pub next : ℕ

abbrev pub notes_behind : ℕ → List Note → List (List ℕ) → Result (NotesState × List (List ℕ)) Refusal
notes_behind n list ls = Ok (record { list = list; next = n }, ls)

-- the notes so far with those that stand first among further lines, and the lines behind these; the
-- first of the further lines has the number n
abbrev pub with_lines : ℕ → List Note → List (List ℕ) → Result (NotesState × List (List ℕ)) Refusal
with_lines n list [] = notes_behind n list []
with_lines n list (l ∷ ls) =
    if is_note l then (line_noted n l ls >>= λ xs. with_lines (following_line_number n) (list ++ xs) ls) else notes_behind n list (l ∷ ls)

-- the notes that stand first among lines, and the lines behind them; the first line has the number
-- n
unfoldable pub notes_read : ℕ → List (List ℕ) → Result (NotesState × List (List ℕ)) Refusal
notes_read n ls = with_lines n [] ls
