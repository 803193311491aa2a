-- How the program `party` ends: the number of its status, and what it tells on standard error.
use Rattle.std.specs.Prelude.{◌≡◌, ℕ, List, [], codes}
use Rattle.command_input.specs.declared.exit.Exit.{Exit}
use Rattle.command_input.specs.StandardError.{told_text}
use Rattle.party_main.specs.declared.top.PartyStatus.{PartyStatus}
use Rattle.party_main.specs.declared.top.PartyStatus.TheVariants.{Done, Warned, WrongWords, Refused, ReadFault, WriteFault, NoMemory, TooLong}
use Rattle.party_main.specs.Reasons.{reason_line}

-- the number of a status: those of `swap`
abbrev pub party_exit_number : PartyStatus → ℕ
party_exit_number Done = 0
party_exit_number Warned = 1
party_exit_number WrongWords = 2
party_exit_number (Refused reason) = 3
party_exit_number ReadFault = 4
party_exit_number WriteFault = 5
party_exit_number NoMemory = 6
party_exit_number TooLong = 7

-- the lines of standard error
unfoldable pub party_error_lines : PartyStatus → List ℕ
party_error_lines Done = []
party_error_lines Warned = []
party_error_lines WrongWords = codes "swap: wrong words\nusage: party keys NAME | deal | terms NAME | next NAME | judge [--json]\n"
party_error_lines (Refused reason) = reason_line reason
party_error_lines ReadFault = codes "swap: read fault\n"
party_error_lines WriteFault = codes "swap: write fault\n"
party_error_lines NoMemory = codes "swap: no memory\n"
party_error_lines TooLong = codes "swap: too long\n"

-- the process ends as the status asks
pub record IsPartyExit (e : Exit) (status : PartyStatus) : Type 0 where
  pub number : e.number ≡ party_exit_number status
  pub told : told_text e.told ≡ party_error_lines status
