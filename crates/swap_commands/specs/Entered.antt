-- The job of a race, as it was read, and what is needed to race it.
use Rattle.std.specs.Prelude.{◌≡◌, ◌≤◌, ℕ, Bool, List, length, Option}
use Rattle.swap_io.specs.Tape.{Consumes, IsAtEnd, Tape}
use Rattle.swap_job.specs.declared.job.Job.{Job}
use Rattle.swap_job.specs.declared.job.Purpose.TheVariants as purposes
use Rattle.party_wallet.specs.Wallets.{new_wallets}
use Rattle.swap_rules.specs.Accepted.{IsAccepted}
use Rattle.offer_header.specs.Names.{AreNames}
use Rattle.swap_offer.specs.Job.{IsWholeJob}
use Rattle.swap_offer.specs.Wallets.{HaveScripts, HaveWallets}
use Rattle.swap_offer.specs.declared.prepared.Prepared.{Prepared}
use Rattle.swap_world.specs.Actors.{AreHeld}
use Rattle.command_input.specs.declared.refusal.Refusal.{Refusal}
use Rattle.command_input.specs.Input.{InputProgress, HasStopped, desk, fresh, limit}
use Rattle.command_input.specs.declared.fault.InputFault.{InputFault}
use Rattle.swap_commands.specs.Replay.{IsEntered}
use Rattle.swap_commands.specs.Says.{IsCommandRefusal}
use Rattle.swap_commands.specs.Words.{OfJob, Race}

-- A prepared job can race: its conforming parties have its wallets, and the names of its strategies
-- are known.
pub record CanRace (has : List ℕ → Bool) (p : Prepared) : Type 0 where
  pub whole : IsWholeJob p.job
  pub names : AreNames p.job.names
  pub purpose : p.job.purpose ≡ purposes.Race
  pub accepted : IsAccepted p.job.deal
  pub held : AreHeld has p.job.roles
  pub scripts : HaveScripts p.job
  pub fit : HaveWallets p.job
  pub made : p.wallets.items ≡ new_wallets p.job.deal p.job.conforming p.job.seeds

-- The whole input was read, and it is the job of a race.
pub record HasEntered (has : List ℕ → Bool) (left left' : Tape) (job : Job) : Type 0 where
  pub input : List ℕ
  pub taken : Consumes left left' input
  pub ended : IsAtEnd left'
  pub within : length input ≤ limit
  pub entered : IsEntered has input job

-- The race wasn't entered, and this is why the reading stopped. The reason depends neither on the
-- race's ticks nor on the text that was asked for.
pub record HasNotEntered (has : List ℕ → Bool) (left left' : Tape) (n m : ℕ) (fault : InputFault Refusal) : Type 0 where
  pub now : InputProgress
  pub stopped : (ticks : ℕ) (transcript : Bool)
      → HasStopped (IsCommandRefusal has (OfJob (Race ticks transcript))) (desk left n fresh) (desk left' m now) fault
