-- What each status of the program says.
use Rattle.std.specs.Prelude.{◌≡◌, ◌<◌, ◌≤◌, ◌*◌, ℕ, Bool, List, [], length, Option, Some, Result, Ok, Err, if◌then◌else◌}
use Rattle.std.specs.Io.KnownBytes.{Appends}
use Rattle.swap_io.specs.Tape.{Consumes, IsAtEnd, IsInput, Tape}
use Rattle.swap_io.specs.Causes.{AppendsProperPrefix}
use Rattle.swap_io.specs.Handed.{AppendsPrefix}
use Rattle.command_input.specs.declared.reason.Reason.{Reason}
use Rattle.swap_job.specs.declared.job.Job.{Job}
use Rattle.swap_job.specs.declared.job.Purpose.TheVariants as purposes
use Rattle.swap_job.specs.declared.job.Finish.TheVariants.{Fair}
use Rattle.outcome_rules.specs.Promises.{AllAreConforming}
use Rattle.swap_offer.specs.Job.{parse_job}
use Rattle.command_input.specs.Written.{Written}
use Rattle.swap_commands.specs.Words.{words_command, Command, OfJob, Many, Run, Race}
use Rattle.command_input.specs.Input.{limit}
use Rattle.command_input.specs.Lines.{collect_lines, filled_lines}
use Rattle.many_lines.specs.Places.{job_of_swap}
use Rattle.swap_many.specs.declared.place.Place.{Place}
use Rattle.swap_commands.specs.Many.{Headed, events_told, headed, opened_places}
use Rattle.swap_world.specs.Gone.{MayGive}
use Rattle.swap_commands.specs.Output.{Chance, output_given_chance, no_chance, refusal_names}
use Rattle.swap_commands.specs.Promised.{AsPromised}
use Rattle.swap_commands.specs.Strategies.{Strategies}
use Rattle.command_input.specs.declared.status.Status.{Status}
use Rattle.command_input.specs.declared.status.Status.TheVariants.{Done, Named}
use Rattle.command_input.specs.Streams.{Streams}

-- The words are a command, the whole input was read, and this is the command's output for it, where
-- chance decides so.
pub record Read (has : List ℕ → Bool) (chance : Chance) (words : List (List ℕ)) (left left' : Tape) (output : Result Written Reason) : Type 0 where
  pub command : Command
  pub asked : words_command words ≡ Some command
  pub input : List ℕ
  pub taken : Consumes left left' input
  pub ended : IsAtEnd left'
  pub within : length input ≤ limit
  pub gives : output_given_chance has chance command input ≡ output

-- The input was read to its end, and its text by what chance decided was written whole. All that
-- the text shows is promised: also that each answer is one that its strategy may give, and that the
-- book is that of a race.
pub record IsDone (who : Strategies) (words : List (List ℕ)) (before after : Streams) (found : Bool) : Type 0 where
  pub chance : Chance
  pub output : Written
  pub read : Read who.holds chance words before.left after.left (Ok output)
  pub written : Appends before.taken after.taken output.text
  pub findings : output.found ≡ found
  pub promised : AsPromised who.holds who.gives chance read.command read.input output

-- The input was read to its end, and a proper prefix of its text was written.
pub record IsCut (who : Strategies) (words : List (List ℕ)) (before after : Streams) : Type 0 where
  pub chance : Chance
  pub output : Written
  pub read : Read who.holds chance words before.left after.left (Ok output)
  pub promised : AsPromised who.holds who.gives chance read.command read.input output
  pub prefix : AppendsProperPrefix before.taken after.taken output.text

-- The input was read to its end, and a prefix of its text was written.
pub record IsCutShort (who : Strategies) (words : List (List ℕ)) (before after : Streams) : Type 0 where
  pub chance : Chance
  pub output : Written
  pub read : Read who.holds chance words before.left after.left (Ok output)
  pub promised : AsPromised who.holds who.gives chance read.command read.input output
  pub prefix : AppendsPrefix before.taken after.taken output.text

-- The input was read to its end and is refused for the reason, and these are the names in its
-- header.
pub record IsRefused (has : List ℕ → Bool) (words : List (List ℕ)) (left left' : Tape) (reason : Reason) (names : List (List ℕ)) : Type 0 where
  pub read : Read has no_chance words left left' (Err reason)
  pub named : names ≡ refusal_names has read.command read.input

-- The words ask for a run, and the input is an offer of parties that all conform, with a fair
-- finish and no event before it.
pub record AsksFairRun (has : List ℕ → Bool) (words : List (List ℕ)) (left left' : Tape) : Type 0 where
  pub transcript : Bool
  pub asked : words_command words ≡ Some (OfJob (Run transcript))
  pub input : List ℕ
  pub told : IsInput left left' input
  pub within : length input ≤ limit
  pub job : Job
  pub read : parse_job has purposes.Run input ≡ Ok (job, [])
  pub finish : job.finish ≡ Fair
  pub conforming : AllAreConforming job.deal job.conforming

-- The words ask for a race, two rounds' ticks of it fit in delta, and the input is an offer of
-- conforming parties alone.
pub record AsksFairRace (has : List ℕ → Bool) (words : List (List ℕ)) (left left' : Tape) : Type 0 where
  pub ticks : ℕ
  pub transcript : Bool
  pub asked : words_command words ≡ Some (OfJob (Race ticks transcript))
  pub input : List ℕ
  pub told : IsInput left left' input
  pub within : length input ≤ limit
  pub job : Job
  pub read : parse_job has purposes.Race input ≡ Ok (job, [])
  pub fits : 2 * ticks ≤ job.deal.delta
  pub conforming : AllAreConforming job.deal job.conforming

-- The words ask for several swaps. In the input all parties of all swaps conform, there is a fair
-- finish with no event before it, and each account has what is set aside from it.
pub record AsksFairMany (has : List ℕ → Bool) (words : List (List ℕ)) (left left' : Tape) : Type 0 where
  pub asked : words_command words ≡ Some Many
  pub input : List ℕ
  pub told : IsInput left left' input
  pub within : length input ≤ limit
  pub head : Headed
  pub read : headed has (filled_lines 1 (collect_lines input)) ≡ Ok head
  pub none : events_told head.many 0 head.lines ≡ Ok []
  pub places : List (List Place)
  pub placed : opened_places head.many ≡ Ok places
  pub finish : head.finish ≡ Fair
  pub conforming : (s : ℕ) → s < length head.many.jobs → AllAreConforming (job_of_swap head.many.jobs s).deal (job_of_swap head.many.jobs s).conforming

-- the status of a run that isn't stopped, by whether something was found
abbrev pub command_status : Bool → Status
command_status found = if found then Named else Done

-- The status is that of the input's output by what chance decided, which is promised.
pub record IsOutputStatus (has : List ℕ → Bool) (gives : MayGive) (command : Command) (input : List ℕ) (s : Status) : Type 0 where
  pub chance : Chance
  pub output : Written
  pub made : output_given_chance has chance command input ≡ Ok output
  pub promised : AsPromised has gives chance command input output
  pub status : s ≡ command_status output.found
