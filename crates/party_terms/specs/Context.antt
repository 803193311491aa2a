-- The lines of context behind a header line: what wallets say of an arc beside the deal. They are
-- shown, and never interpreted. A line whose first word is `about` is one of them.
use Rattle.std.specs.Prelude.{◌==◌, ◌&&◌, ◌++◌, ℕ, Bool, false, nat_le, List, [], ◌∷◌, codes, length, Result, Ok, Err, if◌then◌else◌}
use Rattle.std.specs.List.{list_all}
use Rattle.swap_base.specs.Fault.{◌>>=◌}
use Rattle.command_input.specs.declared.reason.Reason.TheVariants.{OverLimit}
use Rattle.command_input.specs.declared.refusal.Refusal.{Refusal}
use Rattle.transcript_book.specs.declared.said.Misspelling.{Misspelling}
use Rattle.transcript_book.specs.Between.{separated_parts}
use Rattle.transcript_book.specs.Reading.{misspelt, parse_first_field, is_word, bounded_number}
use Rattle.party_rows.specs.Digests.{this_word}
use Rattle.party_rows.specs.Lines.{nameless, following_line_number, or_bad_line}
use Rattle.party_terms.specs.declared.context.ContextLine.{ContextLine}
use Rattle.party_terms.specs.declared.context.Context.{Context}

-- a printable character of ASCII
abbrev pub is_printable : ℕ → Bool
is_printable b = nat_le 32 b && nat_le b 126

-- at most 256 printable characters
abbrev pub is_plain_line : List ℕ → Bool
is_plain_line line = nat_le (length line) 256 && list_all is_printable line

-- a text begins with a word
abbrev pub nonempty_word : List ℕ → Result (Unit {0}) Misspelling
nonempty_word w = if length w == 0 then misspelt else Ok tt

-- the arc that the fields of a line are about, which is below the number of arcs
unfoldable pub context_arc : ℕ → List (List ℕ) → Result ℕ Misspelling
context_arc arcs ws = do
  word ← parse_first_field (this_word (codes "about")) ws
  arc ← parse_first_field (bounded_number arcs) word.1
  text ← parse_first_field nonempty_word arc.1
  Ok arc.0

-- the arc that a line tells something about
unfoldable pub parse_context_line : ℕ → List ℕ → Result ℕ Misspelling
parse_context_line arcs line = if is_plain_line line then context_arc arcs (separated_parts 32 line) else misspelt

-- there are at most 1,024 lines of context
abbrev pub check_room : ℕ → List ContextLine → Result (Unit {0}) Refusal
check_room number list = if length list == 1024 then Err (nameless (OverLimit number (codes "about") 1025)) else Ok tt

-- with one more line of context, of that number
unfoldable pub with_context_line : ℕ → ℕ → List ContextLine → List ℕ → Result (List ContextLine) Refusal
with_context_line arcs number list line = do
  u ← check_room number list
  arc ← or_bad_line number (parse_context_line arcs line)
  Ok (list ++ record { arc = arc; line = line } ∷ [])

abbrev pub begins_context : List (List ℕ) → Bool
begins_context [] = false
begins_context (w ∷ ws) = is_word w (codes "about")

-- the first word of the line is `about`
unfoldable pub is_context_line : List ℕ → Bool
is_context_line line = begins_context (separated_parts 32 line)

abbrev pub context_end : ℕ → List ContextLine → List (List ℕ) → Result (Context × List (List ℕ)) Refusal
context_end number list ls = Ok (record { list = list; next = number }, ls)

-- the list with the lines of context that stand first among further lines, and the lines behind
-- them; the first of the further lines has that number
abbrev pub with_context_lines : ℕ → ℕ → List ContextLine → List (List ℕ) → Result (Context × List (List ℕ)) Refusal
with_context_lines arcs number list [] = context_end number list []
with_context_lines arcs number list (l ∷ ls) =
    if is_context_line l then (with_context_line arcs number list l >>= λ more. with_context_lines arcs (following_line_number number) more ls) else context_end number list (l ∷ ls)

-- the lines of context that stand first among lines, and the lines behind them; the first has that
-- number
unfoldable pub parse_context : ℕ → ℕ → List (List ℕ) → Result (Context × List (List ℕ)) Refusal
parse_context arcs number ls = with_context_lines arcs number [] ls
