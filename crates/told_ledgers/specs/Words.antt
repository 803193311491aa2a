-- What a line of a ledger is, by its words alone.
use Rattle.std.specs.Prelude.{◌&&◌, ◌||◌, not, ℕ, Bool, false, List, [], ◌∷◌, codes, decimal, nat_le, slice_index_or}
use Rattle.std.specs.Prelude.{Result, Ok, if◌then◌else◌}
use Rattle.swap_base.specs.Fault.{◌>>=◌}
use Rattle.transcript_book.specs.declared.said.Misspelling.{Misspelling}
use Rattle.transcript_book.specs.Between.{separated_parts}
use Rattle.transcript_book.specs.Reading.{decimal_number, is_word, misspelt, nothing_more, parse_first_field}
use Rattle.told_ledgers.specs.declared.kind.Kind.{Kind}
use Rattle.told_ledgers.specs.declared.kind.Kind.TheVariants.{Read, Refused, Noise, Publish, Accepted}

-- the word with that number, counted from 0, and none where there are fewer
abbrev pub nth_word : ℕ → List (List ℕ) → List ℕ
nth_word i ws = slice_index_or ws i []

-- the last two words say that a call was accepted
abbrev pub ends_accepted : List (List ℕ) → Bool
ends_accepted [] = false
ends_accepted (w ∷ []) = false
ends_accepted (w ∷ x ∷ []) = is_word w (codes "=") && is_word x (codes "accepted")
ends_accepted (w ∷ x ∷ y ∷ ws) = ends_accepted (x ∷ y ∷ ws)

-- the last three words say that a sender's funds were lacking
abbrev pub ends_unfunded : List (List ℕ) → Bool
ends_unfunded [] = false
ends_unfunded (w ∷ []) = false
ends_unfunded (w ∷ x ∷ []) = false
ends_unfunded (w ∷ x ∷ y ∷ []) = is_word w (codes "=") && is_word x (codes "NoFunds")
ends_unfunded (w ∷ x ∷ y ∷ z ∷ ws) = ends_unfunded (x ∷ y ∷ z ∷ ws)

-- the word is that of a call that its party may make again where it was refused
abbrev pub is_repeatable : List ℕ → Bool
is_repeatable w = is_word w (codes "unlock") || is_word w (codes "claim") || is_word w (codes "refund")

-- a publish for which funds were lacking
abbrev pub lacks_funds : List (List ℕ) → Bool
lacks_funds ws = is_word (nth_word 2 ws) (codes "publish") && ends_unfunded ws

-- a call of the party was refused where it may be made again and wasn't accepted
abbrev pub own_kind : List (List ℕ) → Kind
own_kind ws = if (is_repeatable (nth_word 2 ws) || lacks_funds ws) && not (ends_accepted ws) then Refused else Read

-- a call of somebody else is noise where it wasn't accepted, or is a transfer
abbrev pub foreign_kind : List (List ℕ) → Kind
foreign_kind ws =
    if not (ends_accepted ws) || is_word (nth_word 2 ws) (codes "transfer") then Noise
    else if is_word (nth_word 2 ws) (codes "publish") then Publish
    else Accepted

-- what the line of these words is to the party of that number
abbrev pub line_kind : ℕ → List (List ℕ) → Kind
line_kind v ws =
    if not (is_word (nth_word 0 ws) (codes "c")) then Read
    else if is_word (nth_word 1 ws) (decimal v) then own_kind ws
    else foreign_kind ws

-- ---- ticks

abbrev pub tick_sign : List ℕ → Result (Unit {0}) Misspelling
tick_sign w = if is_word w (codes "t") then Ok tt else misspelt

abbrev pub some_heights : ℕ → Result ℕ Misspelling
some_heights k = if nat_le 1 k then Ok k else misspelt

-- by how many heights a ledger ticks by these words
unfoldable pub words_tick : List (List ℕ) → Result ℕ Misspelling
words_tick ws = do
  sign ← parse_first_field tick_sign ws
  by ← parse_first_field decimal_number sign.1
  u ← nothing_more by.1
  some_heights by.0

-- by how many heights a ledger ticks by this line, if it is that of a tick
unfoldable pub line_tick : List ℕ → Result ℕ Misspelling
line_tick line = words_tick (separated_parts 32 line)
