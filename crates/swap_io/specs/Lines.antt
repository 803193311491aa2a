-- The lines of a source, read one after another.
use Rattle.std.specs.Prelude.{◌≡◌, ◌==◌, ◌&&◌, ◌<◌, ◌+◌, ℕ, suc, Bool, true, false, not, List, [], ◌∷◌, ◌++◌, length, drop, IsTrue}
use Rattle.std.specs.Prelude.{if◌then◌else◌}
use Rattle.swap_io.specs.Tape.{Tape, Consumes, IsAtEnd}
use Rattle.swap_io.specs.declared.line_end.LineEnd.{LineEnd}
use Rattle.swap_io.specs.declared.line_end.LineEnd.TheVariants.{Ended, Rest, End}

-- What callers see of lines that are read.
pub record Reading : Type 0 where
  -- the bytes that were taken from the source and not given yet
  pub kept : List ℕ
  -- how many bytes were taken over all calls
  pub taken : ℕ
  -- the most bytes that may be taken
  pub limit : ℕ

-- no line feed stands in the bytes
abbrev pub lacks_feed : List ℕ → Bool
lacks_feed [] = true
lacks_feed (b ∷ bs) = not (b == 10) && lacks_feed bs

-- how many line feeds the bytes begin with
abbrev pub feeds : List ℕ → ℕ
feeds [] = 0
feeds (b ∷ bs) = if b == 10 then suc (feeds bs) else 0

-- the line feeds that what is kept begins with were passed over
abbrev pub past_feeds : Reading → Reading
past_feeds r = record r { kept = drop (feeds r.kept) r.kept }

-- The bytes were taken from the source and counted.
pub record TookFromSource (left left' : Tape) (old new : Reading) (bytes : List ℕ) : Type 0 where
  pub consumed : Consumes left left' bytes
  pub counted : new.taken ≡ old.taken + length bytes
  pub limit : new.limit ≡ old.limit

-- some bytes were taken from the source and counted
abbrev pub TookSome : Tape → Tape → Reading → Reading → Type 0
TookSome left left' old new = (bytes : List ℕ) × TookFromSource left left' old new bytes

-- nothing is kept, and nothing is left
pub record IsReadingFinished (left : Tape) (now : Reading) : Type 0 where
  pub kept : now.kept ≡ []
  pub none_left : IsAtEnd left

-- the line feed that ended a line
abbrev pub line_end_bytes : LineEnd → List ℕ
line_end_bytes Ended = 10 ∷ []
line_end_bytes Rest = []
line_end_bytes End = []

-- a line that a line feed ended, bytes at the end that none ended, or no further byte
abbrev pub HasLineEnd : LineEnd → List ℕ → Tape → Reading → Type 0
HasLineEnd Ended line left now = Unit {0}
HasLineEnd Rest line left now = (0 < length line) × IsReadingFinished left now
HasLineEnd End line left now = (line ≡ []) × IsReadingFinished left now

-- What was kept, with the bytes that were taken, is the line with its line feed, if any, and what
-- is kept now.
pub record IsNext (left left' : Tape) (old new : Reading) (line : List ℕ) (end : LineEnd) : Type 0 where
  pub bytes : List ℕ
  pub took : TookFromSource left left' old new bytes
  pub parts : old.kept ++ bytes ≡ line ++ (line_end_bytes end ++ new.kept)
  pub one : IsTrue (lacks_feed line)
  pub ends : HasLineEnd end line left' new

-- The bytes up to the first line feed, and those after it.
pub record IsCutAtFeed (bytes before after : List ℕ) : Type 0 where
  pub parts : bytes ≡ before ++ 10 ∷ after
  pub one : IsTrue (lacks_feed before)

-- what was kept up to its first line feed goes to the line, or all of it where it has none
abbrev pub TakesLine : Bool → Reading → Reading → List ℕ → List ℕ → Type 0
TakesLine true old new line line' = (more : List ℕ) × IsCutAtFeed old.kept more new.kept × (line' ≡ line ++ more)
TakesLine false old new line line' = (new.kept ≡ []) × IsTrue (lacks_feed old.kept) × (line' ≡ line ++ old.kept)

-- some bytes were taken and are kept, or nothing is left
abbrev pub IsFilled : Bool → Tape → Tape → Reading → Reading → Type 0
IsFilled true left left' old new = TookFromSource left left' old new new.kept × (0 < length new.kept)
IsFilled false left left' old new = TookFromSource left left' old new [] × IsReadingFinished left' new
