-- The lines of what a party hands over: each is ended by a line feed.
use Rattle.std.specs.Prelude.{◌≡◌, ◌==◌, ◌+◌, ◌-◌, ◌^◌, ℕ, Bool, List, [], ◌∷◌, codes, length, take, min, slice_index_or, Result, Ok, Err}
use Rattle.std.specs.Prelude.{if◌then◌else◌}
use Rattle.swap_base.specs.Fault.{Fails}
use Rattle.swap_base.specs.declared.fault.Fault.{Fault}
use Rattle.command_input.specs.declared.reason.Reason.{Reason}
use Rattle.command_input.specs.declared.reason.Reason.TheVariants.{BadLine, CutShort}
use Rattle.command_input.specs.declared.refusal.Refusal.{Refusal}
use Rattle.command_input.specs.Refusal.{named_result, refusal}
use Rattle.offer_moves.specs.FieldLimits.{check_range}
use Rattle.transcript_book.specs.declared.said.Misspelling.{Misspelling}
use Rattle.transcript_book.specs.Between.{separated_parts}

-- ---- reasons

-- a reason that speaks of no party by its number
abbrev pub nameless : Reason → Refusal
nameless reason = refusal [] reason

-- what the line of that number says, or that it is a bad one
abbrev pub or_bad_line : {A : Type 0} → ℕ → Result A Misspelling → Result A Refusal
or_bad_line n (Ok x) = Ok x
or_bad_line n (Err e) = Err (nameless (BadLine n))

-- ---- lines

-- the last byte is a line feed
abbrev pub is_ended : List ℕ → Bool
is_ended text = slice_index_or text (length text - 1) 0 == 10

-- the lines of a text, each ended by a line feed
unfoldable pub ended_lines : List ℕ → Result (List (List ℕ)) Refusal
ended_lines text = if is_ended text then Ok (separated_parts 10 (take (length text - 1) text)) else Err (nameless CutShort)

-- the first of the lines that are to come, and those after it
abbrev pub first_line : List (List ℕ) → Result (List ℕ × List (List ℕ)) Refusal
first_line [] = Err (nameless CutShort)
first_line (l ∷ ls) = Ok (l, ls)

-- no further line, which would have that number
abbrev pub no_line : ℕ → List (List ℕ) → Result (Unit {0}) Refusal
no_line n [] = Ok tt
no_line n (l ∷ ls) = Err (nameless (BadLine n))

-- the number of the line behind one
abbrev pub following_line_number : ℕ → ℕ
following_line_number n = min (n + 1) (2 ^ 32 - 1)

-- A header line has at most 65,536 bytes: the longest that is written of a deal has fewer than half
-- as many.
unfoldable pub short_header : ℕ → List ℕ → Result (Unit {0}) Refusal
short_header line text = named_result [] (check_range line (codes "header") 0 65536 (length text))

-- what is read of the first of these lines, and the lines that are then to come
abbrev pub TakesFirstLine : {X Y R : Type 0} → (X → Y) → Result X (Fault R) → List (List ℕ) → Result (Y × List (List ℕ)) R → Type 0
TakesFirstLine view (Ok x) rest read = read ≡ Ok (view x, rest)
TakesFirstLine view (Err e) rest read = Fails e read
