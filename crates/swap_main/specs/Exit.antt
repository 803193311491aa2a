-- How the program ends: the number of its status, and what it tells on standard error.
use Rattle.std.specs.Prelude.{◌≡◌, ℕ, List, [], ◌∷◌, codes}
use Rattle.swap_base.specs.Text.{joined}
use Rattle.command_input.specs.declared.exit.Exit.{Exit}
use Rattle.command_input.specs.declared.status.Status.{Status}
use Rattle.command_input.specs.declared.status.Status.TheVariants.{Done, Named, WrongWords, Refused, ReadFault, WriteFault, NoMemory, TooLong}
use Rattle.command_input.specs.StandardError.{refusal_text, told_text}

-- the number of a status
abbrev pub exit_number : Status → ℕ
exit_number Done = 0
exit_number Named = 1
exit_number WrongWords = 2
exit_number (Refused reason names) = 3
exit_number ReadFault = 4
exit_number WriteFault = 5
exit_number NoMemory = 6
exit_number TooLong = 7

-- the words that the program takes
unfoldable pub usage : List ℕ
usage =
    joined (codes "usage: swap check | run [--transcript] | race [--ticks K] [--transcript] | audit" ∷
    codes " | make | gen --seed S --parties N --events E [--summary] | clear | many\n" ∷ [])

-- the lines of standard error; none where the text was written whole
unfoldable pub error_lines : Status → List ℕ
error_lines Done = []
error_lines Named = []
error_lines WrongWords = joined (codes "swap: wrong words\n" ∷ usage ∷ [])
error_lines (Refused reason names) = refusal_text names reason
error_lines ReadFault = codes "swap: read fault\n"
error_lines WriteFault = codes "swap: write fault\n"
error_lines NoMemory = codes "swap: no memory\n"
error_lines TooLong = codes "swap: too long\n"

-- the number of the status, and its lines
pub record IsExit (exit : Exit) (status : Status) : Type 0 where
  pub number : exit.number ≡ exit_number status
  pub lines : told_text exit.told ≡ error_lines status
