-- An input that is read line by line.
use Rattle.std.specs.Prelude.{◌≡◌, ◌<◌, ◌≤◌, ◌+◌, ◌-◌, ℕ, cond, Bool, true, false, List, [], ◌∷◌, ◌++◌, length, IsTrue}
use Rattle.swap_io.specs.Tape.{IsAtEnd, Tape}
use Rattle.swap_io.specs.Causes.{Rose}
use Rattle.swap_io.specs.Lines.{IsNext, Reading, TookFromSource, feeds, lacks_feed, past_feeds}
use Rattle.swap_io.specs.declared.line_end.LineEnd.{LineEnd}
use Rattle.swap_io.specs.declared.line_end.LineEnd.TheVariants.{Ended, End}
use Rattle.swap_io.specs.declared.fault.LineFault.{LineFault}
use Rattle.swap_io.specs.declared.fault.DrainFault.{DrainFault}
use Rattle.command_input.specs.Faults.{of_drain, of_line}
use Rattle.command_input.specs.Lines.{collect_lines, filled_lines}
use Rattle.command_input.specs.declared.fault.InputFault.{InputFault}
use Rattle.command_input.specs.declared.fault.InputFault.TheVariants.{Refused, ReadFault, TooLong, NoMemory}

-- the most bytes of an input
abbrev pub limit : ℕ
limit = 16777216

-- How far an input was read.
pub record InputProgress : Type 0 where
  pub reading : Reading
  -- how many lines were read, blank ones too
  pub number : ℕ
  -- the last of them
  pub text : List ℕ
  -- whether the end was met
  pub over : Bool

-- before the first line
abbrev pub fresh : InputProgress
fresh = record { reading = record { kept = []; taken = 0; limit = limit }; number = 0; text = []; over = false }

-- the lines ahead that aren't blank, where these bytes are still to come
abbrev pub ahead : InputProgress → List ℕ → List (ℕ × List ℕ)
ahead s rest = filled_lines (s.number + 1) (collect_lines (s.reading.kept ++ rest))

-- the empty lines that were there already were passed over
abbrev pub past_empty : InputProgress → InputProgress
past_empty s = record s { reading = past_feeds s.reading; number = s.number + feeds s.reading.kept }

-- bytes that may still come: none after the end
abbrev pub CanBeLeft : InputProgress → List ℕ → Type 0
CanBeLeft s rest = s.over ≡ true → rest ≡ []

-- What the source has left fits what was read: no more was taken than an input may have, and
-- nothing is left where the end was met.
pub record Fits (left : Tape) (s : InputProgress) : Type 0 where
  pub within : s.reading.taken ≤ limit
  pub ended : s.over ≡ true → IsAtEnd left

-- An input and its source at one moment.
pub record Desk : Type 0 where
  -- what the source gave, and what it has left
  pub left : Tape
  -- how many of its calls failed
  pub faults : ℕ
  -- how far the input was read
  pub at : InputProgress

abbrev pub desk : Tape → ℕ → InputProgress → Desk
desk left faults at = record { left = left; faults = faults; at = at }

-- no call of the source failed in between
abbrev pub HasNoNewFault : Desk → Desk → Type 0
HasNoNewFault old new = new.faults ≡ old.faults

-- a call of the source failed in between
abbrev pub HasFailed : Desk → Desk → Type 0
HasFailed old new = Rose old.faults new.faults

-- the bytes were taken from the source
abbrev pub TookBytes : Desk → Desk → List ℕ → Type 0
TookBytes old new bytes = TookFromSource old.left new.left old.at.reading new.at.reading bytes

-- What stands after a call: the bytes were taken, no read failed, and what is left fits.
pub record Stands (old new : Desk) (bytes : List ℕ) : Type 0 where
  pub took : TookBytes old new bytes
  pub calm : HasNoNewFault old new
  pub fits : Fits new.left new.at

-- a measure of the lines that may still come: none after the end
abbrev pub to_go : InputProgress → ℕ
to_go s = cond s.over 0 ((limit + 2 - s.reading.taken) + length s.reading.kept)

-- the number of the last line, by what ended it: no byte makes no line
abbrev pub counted_lines : LineEnd → ℕ → ℕ
counted_lines End n = n
counted_lines _ n = n + 1

-- whether the end was met
abbrev pub is_over : LineEnd → Bool
is_over Ended = false
is_over _ = true

-- The bytes up to a line feed or the end were taken as the line, and the line was counted.
pub record CountsLine (end : LineEnd) (old new : Desk) : Type 0 where
  pub next : IsNext old.left new.left old.at.reading new.at.reading new.at.text end
  pub calm : HasNoNewFault old new
  pub within : new.at.reading.taken ≤ limit
  pub number : new.at.number ≡ counted_lines end old.at.number
  pub few : new.at.number ≤ limit
  pub over : new.at.over ≡ is_over end
  pub fewer : to_go new.at < to_go old.at

-- The next line that isn't blank: whatever comes after it, the lines ahead were it and those ahead
-- of it.
pub record IsLine (old new : Desk) : Type 0 where
  pub bytes : List ℕ
  pub stands : Stands old new bytes
  pub open_yet : old.at.over ≡ false
  pub first : (rest : List ℕ) → CanBeLeft new.at rest → ahead old.at (bytes ++ rest) ≡ (new.at.number, new.at.text) ∷ ahead new.at rest
  pub counted : old.at.number < new.at.number
  pub few : new.at.number ≤ limit

-- No line is ahead, and the end was met.
pub record IsLast (old new : Desk) : Type 0 where
  pub bytes : List ℕ
  pub stands : Stands old new bytes
  pub can : CanBeLeft old.at bytes
  pub none : ahead old.at bytes ≡ []
  pub met : new.at.over ≡ true

abbrev pub GivesLine : Bool → Desk → Desk → Type 0
GivesLine true old new = IsLine old new
GivesLine false old new = IsLast old new

-- A line that a line feed ended: what was kept, with the bytes that were taken, is the line with
-- its line feed, and what is kept now.
pub record IsFed (old new : Desk) : Type 0 where
  pub bytes : List ℕ
  pub stands : Stands old new bytes
  pub parts : old.at.reading.kept ++ bytes ≡ new.at.text ++ (10 ∷ new.at.reading.kept)
  pub one : IsTrue (lacks_feed new.at.text)
  pub open_yet : new.at.over ≡ false
  pub fewer : to_go new.at < to_go old.at

-- What stands after the last line feed.
pub record IsRest (old new : Desk) : Type 0 where
  pub bytes : List ℕ
  pub stands : Stands old new bytes
  pub parts : old.at.reading.kept ++ bytes ≡ new.at.text
  pub one : IsTrue (lacks_feed new.at.text)
  pub met : new.at.over ≡ true

abbrev pub GivesPart : Bool → Desk → Desk → Type 0
GivesPart true old new = IsFed old new
GivesPart false old new = IsRest old new

-- Some bytes were taken. P holds of them, whatever comes after them.
pub record Tells (P : List ℕ → Type 0) (old new : Desk) : Type 0 where
  pub bytes : List ℕ
  pub stands : Stands old new bytes
  pub can : (rest : List ℕ) → CanBeLeft new.at rest → CanBeLeft old.at (bytes ++ rest)
  pub told : (rest : List ℕ) → CanBeLeft new.at rest → P (bytes ++ rest)

-- The whole input was read, and P tells of its bytes.
pub record Ends (P : List ℕ → Type 0) (old new : Desk) : Type 0 where
  pub bytes : List ℕ
  pub stands : Stands old new bytes
  pub can : CanBeLeft old.at bytes
  pub told : P bytes
  pub ended : IsAtEnd new.left

-- one byte more than the limit was taken
abbrev pub IsTooLong : Desk → Desk → Type 0
IsTooLong old new = ((bytes : List ℕ) × TookBytes old new bytes) × (new.at.reading.taken ≡ limit + 1)

-- some bytes were taken, no more than an input may have
abbrev pub TookPart : Desk → Desk → Type 0
TookPart old new = ((bytes : List ℕ) × TookBytes old new bytes) × (new.at.reading.taken ≤ limit)

-- Why a reading stopped: what Q tells of what is said against the input, or a fault.
abbrev pub Faulted : {R : Type 0} → (R → Type 0) → Desk → Desk → InputFault R → Type 0
Faulted Q old new (Refused r) = Q r
Faulted Q old new ReadFault = HasFailed old new × TookPart old new
Faulted Q old new TooLong = HasNoNewFault old new × IsTooLong old new
Faulted Q old new NoMemory = HasNoNewFault old new × TookPart old new

-- why the reading of an input stopped; P relates the bytes to the refusal, whatever comes after
-- them
abbrev pub Stops : {R : Type 0} → (List ℕ → R → Type 0) → Desk → Desk → InputFault R → Type 0
Stops P old new fault = Faulted (λ r. Tells (λ bytes. P bytes r) old new) old new fault

-- why the reading of an input stopped, where the whole input was read before it is refused
abbrev pub HasStopped : {R : Type 0} → (List ℕ → R → Type 0) → Desk → Desk → InputFault R → Type 0
HasStopped P old new fault = Faulted (λ r. Ends (λ bytes. P bytes r) old new) old new fault

-- nothing is said against an input
abbrev pub NothingSaid : Unit {0} → Type 0
NothingSaid u = ⊥

-- why no line was given
abbrev pub GivesNoLine : Desk → Desk → LineFault → Type 0
GivesNoLine old new fault = Faulted NothingSaid old new (of_line fault)

-- Nothing is kept; the number and the text of the last line stay, and whether the end was met.
pub record IsDropped (old new : InputProgress) : Type 0 where
  pub kept : new.reading.kept ≡ []
  pub number : new.number ≡ old.number
  pub text : new.text ≡ old.text
  pub over : new.over ≡ old.over

-- the rest of the input was taken: bytes that could still come
pub record IsDrained (old new : Desk) : Type 0 where
  pub bytes : List ℕ
  pub took : TookBytes old new bytes
  pub within : new.at.reading.taken ≤ limit
  pub calm : HasNoNewFault old new
  pub can : CanBeLeft old.at bytes
  pub ended : (old.at.over ≡ true → IsAtEnd old.left) → IsAtEnd new.left

-- why the rest was not taken
abbrev pub Breaks : Desk → Desk → DrainFault → Type 0
Breaks old new fault = Faulted NothingSaid old new (of_drain fault)

-- What is answered where the reading stopped: of an input that is refused the rest is taken first,
-- and a fault of that comes before what is said.
abbrev pub Drains : {R : Type 0} → Desk → Desk → InputFault R → InputFault R → Type 0
Drains old new (Refused r) answer = Faulted (λ said. (said ≡ r) × IsDrained old new) old new answer
Drains old new ReadFault answer = (answer ≡ ReadFault) × (new ≡ old)
Drains old new TooLong answer = (answer ≡ TooLong) × (new ≡ old)
Drains old new NoMemory answer = (answer ≡ NoMemory) × (new ≡ old)
