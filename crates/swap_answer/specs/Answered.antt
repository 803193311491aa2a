-- What the program's answer over memory promises.
use Rattle.std.specs.Prelude.{◌≡◌, ◌==◌, ℕ, List, [], length, Option, Some}
use Rattle.swap_io.specs.Tape.{Tape}
use Rattle.command_input.specs.declared.status.Status.{Status}
use Rattle.command_input.specs.declared.status.Status.TheVariants.{Done, Named, WrongWords, Refused, ReadFault, WriteFault, NoMemory, TooLong}
use Rattle.command_input.specs.Streams.{Streams, streams}
use Rattle.swap_run.specs.Program.{program_rule}
use Rattle.swap_commands.specs.Strategies.{Strategies, given_strategies}
use Rattle.swap_main.specs.Answer.{IsAnswer}
use Rattle.swap_main.specs.KnownStrategies.{by_rule, is_known}
use Rattle.swap_answer.specs.declared.answer.Answered.{Answered}

-- the program's own strategies, each of which answers by its rule
abbrev pub known_strategies : Strategies
known_strategies = given_strategies is_known (by_rule program_rule)

-- the source and the sink before: the whole input is left, and nothing is written
abbrev pub begun : List ℕ → Streams
begun input = streams (record { ahead = Some input; given = []; ended = length input == 0 }) 0 (Some []) 0

-- the status over memory: a sink in memory fails for want of memory alone
abbrev pub memory_status : Status → Status
memory_status Done = Done
memory_status Named = Named
memory_status WrongWords = WrongWords
memory_status (Refused reason names) = Refused reason names
memory_status ReadFault = ReadFault
memory_status WriteFault = NoMemory
memory_status NoMemory = NoMemory
memory_status TooLong = TooLong

-- the text that goes with a status: what was written, where it was written whole
abbrev pub whole_text : Status → List ℕ → List ℕ
whole_text Done written = written
whole_text Named written = written
whole_text _ written = []

-- `swap_plain` promises this of these words and of this input, over a source and a sink in memory.
pub record IsAnswered (who : Strategies) (words : List (List ℕ)) (input : List ℕ) (a : Answered) : Type 0 where
  -- the status and the text over the sink, and the source and the sink after
  pub ended : Status
  pub written : List ℕ
  pub after : Streams
  pub took : after.taken ≡ Some written
  pub answer : IsAnswer who words (begun input) after ended
  pub status : a.status ≡ memory_status ended
  pub text : a.text ≡ whole_text ended written
