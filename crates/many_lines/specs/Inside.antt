-- What a reader of the lines before the events keeps.
use Rattle.std.specs.Prelude.{◌≡◌, ◌≤◌, ◌<◌, ℕ, true, is_some, length, map, vec_capacity}
use Rattle.swap_job.specs.declared.job.Purpose.TheVariants.{Run}
use Rattle.swap_offer.specs.Wallets.{prepared_wallets}
use Rattle.many_lines.specs.Below.{AreChainsBelow}
use Rattle.many_lines.specs.declared.heading.Heading.TheInside.{Inside}
use Rattle.many_lines.specs.declared.many_job.ManyJob.{ManyJob}
use Rattle.many_lines.specs.declared.stage.Stage.TheVariants.{Header}
use Rattle.many_lines.specs.declared.stage.SwapLine.{SwapLine}
use Rattle.many_lines.specs.Heading.{HeadingState, finish_told}
use Rattle.many_lines.specs.Whole.{AreBoundedChains, AreSwaps}

abbrev pub inside_many_job : Inside → ManyJob
inside_many_job h = record { names = h.names.items; units = h.units.items; jobs = h.jobs.items; chains = h.chains.items }

abbrev pub inside_heading : Inside → HeadingState
inside_heading h = record { many = inside_many_job h; stage = h.stage }

-- There is room for all chains and swaps, and the wallets are those of the swaps.
pub record IsReadingManyJob (h : Inside) : Type 0 where
  pub names_room : 32 ≤ vec_capacity h.names
  pub units_room : 32 ≤ vec_capacity h.units
  pub jobs_room : 8 ≤ vec_capacity h.jobs
  pub chains_room : 8 ≤ vec_capacity h.chains
  pub wallets_room : 8 ≤ vec_capacity h.wallets
  pub chains : AreBoundedChains (inside_many_job h)
  pub swaps : AreSwaps (inside_many_job h)
  pub next : (before : SwapLine) → h.stage ≡ Header before → length h.jobs.items < 8
  pub below : (before : SwapLine) → h.stage ≡ Header before → AreChainsBelow (length h.names.items) before.chains
  pub some : is_some (finish_told h.stage) ≡ true → 1 ≤ length h.jobs.items
  pub each_wallets : length h.wallets.items ≡ length h.jobs.items
  pub wallets : map (λ v. v.items) h.wallets.items ≡ map (prepared_wallets Run) h.jobs.items
