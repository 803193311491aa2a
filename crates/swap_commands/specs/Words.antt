-- The commands that read an input, and what the words ask for.
use Rattle.std.specs.Prelude.{◌≡◌, ℕ, Bool, true, false, List, Option, Some, None, option_and_then}
use Rattle.program_words.specs.Words.{task_text}
use Rattle.program_words.specs.declared.task.Order.{Order}
use Rattle.program_words.specs.declared.task.Order.TheVariants as orders
use Rattle.program_words.specs.declared.task.Request.{Request}
use Rattle.program_words.specs.declared.task.Task.{Task}
use Rattle.program_words.specs.declared.task.Task.TheVariants as tasks

-- A command that reads a job. A race states the ticks of a round. A run and a race write their
-- report, or their transcript.
pub data JobCommand : Type 0 where
  Check : JobCommand
  Run : (transcript : Bool) → JobCommand
  Race : (ticks : ℕ) (transcript : Bool) → JobCommand
  Make : JobCommand

-- A command that reads an input: a job, a transcript, wishes, or several swaps.
pub data Command : Type 0 where
  OfJob : JobCommand → Command
  Audit : Command
  Clear : Command
  Many : Command

-- the command of an order
abbrev pub ordered : Order → Command
ordered orders.Check = OfJob Check
ordered (orders.Run transcript) = OfJob (Run transcript)
ordered orders.Make = OfJob Make
ordered orders.Audit = Audit
ordered orders.Clear = Clear
ordered orders.Many = Many

-- the command of a task, where it reads an input
abbrev pub task_command : Task → Option Command
task_command (tasks.Input order) = Some (ordered order)
task_command (tasks.Race ticks transcript) = Some (OfJob (Race ticks transcript))
task_command (tasks.Number request) = None

-- the number's job that a task asks for
abbrev pub task_request : Task → Option Request
task_request (tasks.Input order) = None
task_request (tasks.Race ticks transcript) = None
task_request (tasks.Number request) = Some request

-- the command that the words ask for, where it reads an input
abbrev pub words_command : List (List ℕ) → Option Command
words_command words = option_and_then task_command (task_text words)

-- the job of a number that the words ask for
abbrev pub words_request : List (List ℕ) → Option Request
words_request words = option_and_then task_request (task_text words)

-- whether the command is a race
abbrev pub is_race : Command → Bool
is_race (OfJob (Race ticks transcript)) = true
is_race _ = false

-- The words ask for a race.
pub record AsksRace (words : List (List ℕ)) : Type 0 where
  pub ticks : ℕ
  pub transcript : Bool
  pub asks : words_command words ≡ Some (OfJob (Race ticks transcript))
