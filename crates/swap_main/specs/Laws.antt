-- Where what is written is determined, whatever chance decides.
use Rattle.std.specs.Prelude.{◌≡◌, ℕ, Bool, false, List, Ok, Option}
use Rattle.std.specs.List.{list_any}
use Rattle.swap_digraph.specs.declared.deal.Deal.{Deal}
use Rattle.ledger_core.specs.declared.entry.Call.{Call}
use Rattle.ledger_core.specs.Book.{Histories}
use Rattle.swap_job.specs.declared.event.Event.{Event}
use Rattle.swap_job.specs.declared.job.Job.{Job}
use Rattle.swap_job.specs.declared.job.Purpose.TheVariants as purposes
use Rattle.swap_run.specs.Asked.{is_strategy}
use Rattle.swap_offer.specs.Job.{parse_job}
use Rattle.command_input.specs.Written.{Written}
use Rattle.swap_commands.specs.Output.{Chance, output_given_chance}
use Rattle.swap_commands.specs.Words.{is_race, Command, OfJob, Run}
use Rattle.swap_commands.specs.Promised.{AsPromised}
use Rattle.swap_main.specs.KnownStrategies.{by_rule}

-- if nobody follows a strategy, the text of a run is the same whatever chance decides
abbrev pub SameWithoutStrategies : Type 0
SameWithoutStrategies =
    (has : List ℕ → Bool) (a b : Chance) (transcript : Bool) (input : List ℕ) (job : Job) (events : List Event)
    → parse_job has purposes.Run input ≡ Ok (job, events) → list_any is_strategy job.roles ≡ false
    → output_given_chance has a (OfJob (Run transcript)) input ≡ output_given_chance has b (OfJob (Run transcript)) input

-- where a rule gives each answer, the rule decides what is written of all but a race: two outputs
-- for an input that are promised so are the same
abbrev pub RulesDecide : Type 0
RulesDecide =
    (rule : List ℕ → Deal → ℕ → ℕ → Histories → Option (ℕ × Call)) (has : List ℕ → Bool) (a b : Chance) (command : Command) (input : List ℕ)
    (one other : Written) → is_race command ≡ false → output_given_chance has a command input ≡ Ok one → AsPromised has (by_rule rule) a command input one
    → output_given_chance has b command input ≡ Ok other → AsPromised has (by_rule rule) b command input other → one ≡ other
