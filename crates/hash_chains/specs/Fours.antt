-- The values of chains, by fours.
use Rattle.std.specs.Prelude.{◌≡◌, ℕ, ◌+◌, ◌*◌, ◌<◌, List, [], length, slice_index_or}
use Rattle.hash_chains.specs.Chains.{chain_value, chain_start}
use Rattle.hash_chains.specs.declared.chains.Row.{Row}
use Rattle.hash_chains.specs.declared.chains.Four.{Four}

abbrev pub no_row : Row
no_row = record { values = [] }

abbrev pub no_four : Four
no_four = record { rows = [] }

-- row n has what f i gives for n, for each i below 4
abbrev pub HasRow : (ℕ → ℕ → List ℕ) → ℕ → List Row → Type 0
HasRow f n rows = (i : ℕ) → i < 4 → slice_index_or (slice_index_or rows n no_row).values i [] ≡ f n i

-- the values of four chains, from chain j on, after 0 to 15 steps
abbrev pub AreFourChains : List ℕ → ℕ → ℕ → ℕ → Four → Type 0
AreFourChains seed party lock j four = (n : ℕ) → n < 16 → HasRow (λ k i. chain_value k (chain_start seed party lock (j + i))) n four.rows

-- the starts of four chains, from chain j on
abbrev pub AreStarts : List ℕ → ℕ → ℕ → ℕ → List (List ℕ) → Type 0
AreStarts seed party lock j four = (i : ℕ) → i < 4 → slice_index_or four i [] ≡ chain_start seed party lock (j + i)

-- the values of all chains
pub record AreChains (seed : List ℕ) (party lock : ℕ) (fours : List Four) : Type 0 where
  pub long : length fours ≡ 17
  pub each : (g : ℕ) → g < 17 → AreFourChains seed party lock (4 * g) (slice_index_or fours g no_four)
