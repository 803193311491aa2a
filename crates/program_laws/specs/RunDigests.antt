-- The calls of a run hold digests.
use Rattle.std.specs.Prelude.{◌≡◌, ℕ, Bool, List, All, Option, Some, Ok}
use Rattle.swap_digraph.specs.declared.deal.Deal.{Deal}
use Rattle.swap_job.specs.declared.event.Event.{Event}
use Rattle.swap_job.specs.declared.job.Job.{Job}
use Rattle.swap_job.specs.declared.job.Purpose.TheVariants as purposes
use Rattle.ledger_core.specs.declared.entry.Call.{Call}
use Rattle.ledger_core.specs.Book.{Histories}
use Rattle.swap_run.specs.Program.{program_rule}
use Rattle.swap_run.specs.Asked.{Answers}
use Rattle.swap_offer.specs.Job.{parse_job}
use Rattle.swap_commands.specs.Output.{AreGiven, collected_book, run_state}
use Rattle.swap_main.specs.KnownStrategies.{by_rule}
use Rattle.typed_books.specs.Typed.{IsDigest}
use Rattle.program_laws.specs.Digests.{HasDigests, HoldsDigests}

-- what strategies answer, by name, deal, party, turn number and what the party knows
abbrev pub NamedStrategyRule : Type 0
NamedStrategyRule = List ℕ → Deal → ℕ → ℕ → Histories → Option (ℕ × Call)

-- the rule answers calls that hold digests, where those that it is shown do
abbrev pub KeepsDigests : NamedStrategyRule → Type 0
KeepsDigests rule =
    (name : List ℕ) (d : Deal) (p t : ℕ) (k : Histories) (x : ℕ × Call) → All IsDigest d.hashlocks → HoldsDigests k → rule name d p t k ≡ Some x
    → HasDigests x.1

-- The rules of the program's strategies do.
abbrev pub ProgramKeepsDigests : Type 0
ProgramKeepsDigests = KeepsDigests program_rule

-- Where strategies answer by a rule that keeps digests, every call in the book of an input's run
-- holds digests: what is read of the input holds them, and what is made of seeds is hashed.
abbrev pub RunsHoldDigests : Type 0
RunsHoldDigests =
    (rule : NamedStrategyRule) (has : List ℕ → Bool) (answers : Answers) (input : List ℕ) (job : Job) (events : List Event) → KeepsDigests rule
    → parse_job has purposes.Run input ≡ Ok (job, events) → AreGiven (by_rule rule) job.deal answers (run_state answers job events).asked
    → HoldsDigests (collected_book answers job events)
