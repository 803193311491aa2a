-- An audit of the transcript that a run or a race wrote writes the report that the run or the race
-- writes.
use Rattle.std.specs.Prelude.{◌≡◌, ◌≤◌, ℕ, Bool, true, false, List, length, Ok}
use Rattle.command_input.specs.Written.{Written}
use Rattle.swap_run.specs.Program.{program_rule}
use Rattle.command_input.specs.Input.{limit}
use Rattle.command_input.specs.Streams.{Streams}
use Rattle.swap_commands.specs.Output.{Chance, output_given_chance}
use Rattle.swap_commands.specs.Promised.{AsPromised}
use Rattle.swap_main.specs.KnownStrategies.{by_rule, is_known}
use Rattle.swap_main.specs.Top.{IsDone}
use Rattle.swap_commands.specs.Words.{Command, OfJob, Audit, Run, Race}
use Rattle.swap_commands.specs.Strategies.{given_strategies}
use Rattle.program_laws.specs.RunDigests.{KeepsDigests, NamedStrategyRule}

-- What was written of an input is a transcript. Its audit writes what the command writes for that
-- input, and tells of a finding where the transcript's status did.
pub record IsAudited (has : List ℕ → Bool) (chance : Chance) (command : Command) (input : List ℕ) (output : Written) : Type 0 where
  pub report : Written
  pub audited : output_given_chance has chance Audit output.text ≡ Ok report
  pub same : output_given_chance has chance command input ≡ Ok report
  pub found : report.found ≡ output.found

-- An audit of a run's transcript of at most 16,777,216 bytes writes the report that the run writes.
-- Strategies answer by a rule, and the calls of the rule hold digests.
abbrev pub RunsAreAudited : Type 0
RunsAreAudited =
    (rule : NamedStrategyRule) (has : List ℕ → Bool) (chance : Chance) (input : List ℕ) (output : Written) → KeepsDigests rule
    → AsPromised has (by_rule rule) chance (OfJob (Run true)) input output → length output.text ≤ limit
    → IsAudited has chance (OfJob (Run false)) input output

-- An audit of a race's transcript writes the report that the race writes if it leads to the same
-- book, whatever strategies answer.
abbrev pub RacesAreAudited : Type 0
RacesAreAudited =
    (rule : NamedStrategyRule) (has : List ℕ → Bool) (chance : Chance) (ticks : ℕ) (input : List ℕ) (output : Written)
    → AsPromised has (by_rule rule) chance (OfJob (Race ticks true)) input output → length output.text ≤ limit
    → IsAudited has chance (OfJob (Race ticks false)) input output

-- Wherever the program is done with a run, whatever is found, its transcript is audited as the run
-- is reported.
abbrev pub ProgramRunsAreAudited : Type 0
ProgramRunsAreAudited =
    (words : List (List ℕ)) (before after : Streams) (found : Bool)
    (done : IsDone (given_strategies is_known (by_rule program_rule)) words before after found) → done.read.command ≡ OfJob (Run true)
    → length done.output.text ≤ limit → IsAudited is_known done.chance (OfJob (Run false)) done.read.input done.output

-- When an audit of a run's transcript ends, it wrote the text that the run writes, and it tells of
-- a finding where the run did.
abbrev pub AuditsTellTheRun : Type 0
AuditsTellTheRun =
    (words others : List (List ℕ)) (before after first last : Streams) (found named : Bool)
    (done : IsDone (given_strategies is_known (by_rule program_rule)) words before after found) → done.read.command ≡ OfJob (Run true)
    → (told : IsDone (given_strategies is_known (by_rule program_rule)) others first last named) → told.read.command ≡ Audit
    → told.read.input ≡ done.output.text
    → (output_given_chance is_known done.chance (OfJob (Run false)) done.read.input ≡ Ok told.output) × (named ≡ found)

-- Wherever the program is done with a race, whatever is found, its transcript is audited as the
-- race is reported.
abbrev pub ProgramRacesAreAudited : Type 0
ProgramRacesAreAudited =
    (words : List (List ℕ)) (before after : Streams) (found : Bool) (ticks : ℕ)
    (done : IsDone (given_strategies is_known (by_rule program_rule)) words before after found) → done.read.command ≡ OfJob (Race ticks true)
    → length done.output.text ≤ limit → IsAudited is_known done.chance (OfJob (Race ticks false)) done.read.input done.output

-- An audit of the race's transcript wrote the text that the race writes if it leads to that book.
abbrev pub AuditsTellTheRace : Type 0
AuditsTellTheRace =
    (words others : List (List ℕ)) (before after first last : Streams) (found named : Bool) (ticks : ℕ)
    (done : IsDone (given_strategies is_known (by_rule program_rule)) words before after found) → done.read.command ≡ OfJob (Race ticks true)
    → (told : IsDone (given_strategies is_known (by_rule program_rule)) others first last named) → told.read.command ≡ Audit
    → told.read.input ≡ done.output.text
    → (output_given_chance is_known done.chance (OfJob (Race ticks false)) done.read.input ≡ Ok told.output) × (named ≡ found)
