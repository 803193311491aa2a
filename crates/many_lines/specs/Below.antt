-- What holds of the accounts of a chain that were read, and of the chains of a swap's arcs.
use Rattle.std.specs.Prelude.{◌≡◌, ◌<◌, ◌≤◌, ℕ, List, length}
use Rattle.std.specs.List.{All}
use Rattle.many_lines.specs.Fields.{most_units}
use Rattle.many_lines.specs.declared.accounts.ChainAccounts.{ChainAccounts}

abbrev pub AreLowUnits : List ℕ → Type 0
AreLowUnits units = All (λ n. n ≤ most_units) units

-- At most 64 accounts, each with units.
pub record AreFew (a : ChainAccounts) : Type 0 where
  pub few : length a.names ≤ 64
  pub each : length a.units ≡ length a.names
  pub low : AreLowUnits a.units

-- A chain has 2 to 64 accounts of at most 10^15 units.
pub record IsBoundedChain (names : List (List ℕ)) (units : List ℕ) : Type 0 where
  pub some : 2 ≤ length names
  pub few : length names ≤ 64
  pub each : length units ≡ length names
  pub low : AreLowUnits units

-- each is below the number of chains
abbrev pub AreChainsBelow : ℕ → List ℕ → Type 0
AreChainsBelow count chains = All (λ n. n < count) chains
