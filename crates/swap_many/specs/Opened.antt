-- What many swaps begin with: places in range, and accounts that have what is set aside.
use Rattle.std.specs.Prelude.{◌≡◌, ℕ, ◌<◌, ◌≤◌, nat_lt, [], length, Option, Some, None, slice_index_or, if◌then◌else◌}
use Rattle.std.specs.List.{range_with_len}
use Rattle.swap_base.specs.Lists.{first_given_answer}
use Rattle.swap_many.specs.declared.overdrawn.Overdrawn.{Overdrawn}
use Rattle.swap_many.specs.Chains.{Setup, place, arc_chain, opening_units, set_aside}

abbrev pub account_lack : Setup → (i x : ℕ) → Option Overdrawn
account_lack m i x =
    if nat_lt (opening_units m i x) (set_aside m i x) then Some (record { chain = i; account = x; have = opening_units m i x; wanted = set_aside m i x }) else None

-- the least account of chain i that lacks units, where there is one
abbrev pub chain_lack : Setup → ℕ → Option Overdrawn
chain_lack m i = first_given_answer (account_lack m i) (range_with_len 0 (length (slice_index_or m.chains i [])))

-- the least account, by chain and place, that lacks units, where there is one
abbrev pub overdrawn : Setup → Option Overdrawn
overdrawn m =
    first_given_answer (chain_lack m) (range_with_len 0 (length m.chains))

-- Each arc's place is a chain and two of its accounts.
pub record ArePlaces (m : Setup) : Type 0 where
  pub chain : (s a : ℕ) → s < m.swaps → a < length (m.cast s).deal.graph.arcs → arc_chain m s a < length m.chains
  pub from : (s a : ℕ) → s < m.swaps → a < length (m.cast s).deal.graph.arcs → (place m s a).from < length (slice_index_or m.chains (arc_chain m s a) [])

-- where no account lacks units, every one has what is set aside from it
abbrev pub NoLackIsCovered : Type 0
NoLackIsCovered = (m : Setup) → ArePlaces m → overdrawn m ≡ None → (i x : ℕ) → set_aside m i x ≤ opening_units m i x
