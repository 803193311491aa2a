-- What holds of swaps that were read.
use Rattle.std.specs.Prelude.{◌≡◌, ◌<◌, ◌≤◌, ℕ, Bool, List, [], length, slice_index_or}
use Rattle.swap_job.specs.declared.job.Job.{Job}
use Rattle.swap_job.specs.declared.job.Purpose.TheVariants.{Run}
use Rattle.offer_header.specs.Limits.{HoldsEach}
use Rattle.offer_header.specs.Names.{AreNames}
use Rattle.swap_rules.specs.Accepted.{IsAccepted}
use Rattle.swap_offer.specs.Job.{IsWholeJob}
use Rattle.swap_offer.specs.Wallets.{HaveScripts, HaveWallets}
use Rattle.swap_many.specs.Chains.{nowhere}
use Rattle.swap_many.specs.Opening.{IsChainPlace}
use Rattle.swap_many.specs.declared.place.Place.{Place}
use Rattle.many_lines.specs.Below.{AreChainsBelow, IsBoundedChain}
use Rattle.many_lines.specs.Places.{job_of_swap}
use Rattle.many_lines.specs.declared.many_job.ManyJob.{ManyJob}

-- An accepted job of a run. Each of its arcs stands on one of the chains.
pub record IsSwap (count : ℕ) (job : Job) (chains : List ℕ) : Type 0 where
  pub purpose : job.purpose ≡ Run
  pub whole : IsWholeJob job
  pub names : AreNames job.names
  pub accepted : IsAccepted job.deal
  pub wallets : HaveWallets job
  pub scripts : HaveScripts job
  pub arcs : length chains ≡ length job.deal.graph.arcs
  pub below : AreChainsBelow count chains

-- At most 8 swaps, and for each the chains of its arcs.
pub record AreSwaps (many : ManyJob) : Type 0 where
  pub few : length many.jobs ≤ 8
  pub each : length many.chains ≡ length many.jobs
  pub swaps : (s : ℕ) → s < length many.jobs → IsSwap (length many.names) (job_of_swap many.jobs s) (slice_index_or many.chains s [])

-- At most 32 chains.
pub record AreBoundedChains (many : ManyJob) : Type 0 where
  pub few : length many.names ≤ 32
  pub each : length many.units ≡ length many.names
  pub chains : (i : ℕ) → i < length many.names → IsBoundedChain (slice_index_or many.names i []) (slice_index_or many.units i [])

-- the program has the strategies of every swap
abbrev pub HoldsEverySwap : (List ℕ → Bool) → ManyJob → Type 0
HoldsEverySwap has many = (s : ℕ) → s < length many.jobs → HoldsEach has (job_of_swap many.jobs s).roles

-- Each swap has a place per arc, which is a chain and two of its accounts.
pub record ArePlaced (many : ManyJob) (places : List (List Place)) : Type 0 where
  pub one_each : length places ≡ length many.jobs
  pub arcs : (s : ℕ) → s < length many.jobs → length (slice_index_or places s []) ≡ length (job_of_swap many.jobs s).deal.graph.arcs
  pub known : (s a : ℕ) → s < length many.jobs → a < length (job_of_swap many.jobs s).deal.graph.arcs
      → IsChainPlace many.units (slice_index_or (slice_index_or places s []) a nowhere)
