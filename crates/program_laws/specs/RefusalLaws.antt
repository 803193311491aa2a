-- What a refusal shows of the header that it is against.
use Rattle.std.specs.Prelude.{◌≡◌, ℕ, Bool, List, ◌∷◌, Ok, Err}
use Rattle.digraph_check.specs.Closed.{IsClosedSet}
use Rattle.leader_check.specs.Cycles.{IsFollowerCycle}
use Rattle.swap_job.specs.declared.job.Purpose.{Purpose}
use Rattle.command_input.specs.declared.reason.Reason.TheVariants.{NotFeedback, NotStrong}
use Rattle.offer_header.specs.Header.{parse_whole_header}
use Rattle.offer_header.specs.declared.header.Header.{Header}
use Rattle.swap_offer.specs.Checks.{header_digraph}
use Rattle.command_input.specs.Lines.{filled_lines, collect_lines}
use Rattle.swap_commands.specs.Output.{output_given_chance, command_purpose, Chance}
use Rattle.swap_commands.specs.Words.{OfJob, JobCommand}

-- The input's first line that isn't blank reads as a header, and P tells of it.
pub record Proposes (has : List ℕ → Bool) (purpose : Purpose) (input : List ℕ) (P : Header → Type 0) : Type 0 where
  pub line : ℕ
  pub text : List ℕ
  pub others : List (ℕ × List ℕ)
  pub first : filled_lines 1 (collect_lines input) ≡ (line, text) ∷ others
  pub header : Header
  pub read : parse_whole_header has purpose line text ≡ Ok header
  pub told : P header

-- A check, a run, a race or a making is refused if the digraph isn't strongly connected. The
-- refusal names some of the header's parties, but not all, and no arc leaves the set of them.
abbrev pub NamedSetsAreClosed : Type 0
NamedSetsAreClosed =
    (has : List ℕ → Bool) (chance : Chance) (command : JobCommand) (input set : List ℕ)
    → output_given_chance has chance (OfJob command) input ≡ Err (NotStrong set)
    → Proposes has (command_purpose command) input (λ h. IsClosedSet (header_digraph h) set)

-- One that is refused since the leaders are no feedback vertex set names a cycle of distinct
-- followers, each with an arc to the next, and the last to the first.
abbrev pub NamedCyclesAreOfFollowers : Type 0
NamedCyclesAreOfFollowers =
    (has : List ℕ → Bool) (chance : Chance) (command : JobCommand) (input cycle : List ℕ)
    → output_given_chance has chance (OfJob command) input ≡ Err (NotFeedback cycle)
    → Proposes has (command_purpose command) input (λ h. IsFollowerCycle (header_digraph h) h.leaders cycle)
