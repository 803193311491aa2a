-- What every state of many swaps keeps: it is what the chains' histories give, each swap's state is
-- good, what is swept is over, and units add up.
use Rattle.std.specs.Prelude.{◌≡◌, ◌⊎◌, ℕ, ◌+◌, ◌==◌, ◌<◌, ◌≤◌, true, List, length, is_some, is_none, if◌then◌else◌}
use Rattle.swap_digraph.specs.Deal.{amount}
use Rattle.ledger_core.specs.declared.entry.Entry.{Entry}
use Rattle.ledger_core.specs.History.{published, settled}
use Rattle.swap_many.specs.Chains.{Setup, arc_chain, opening_units, ChainEntry, projection, Chains, sum_over_arcs, free, is_swept, in_accounts}
use Rattle.swap_many.specs.Many.{Run}
use Rattle.swap_many.specs.Kept.{Kept}
use Rattle.swap_many.specs.Laws.{Follows, AreGood}

-- the contract is settled, or nothing was published
abbrev pub Over : List Entry → Type 0
Over h = (is_some (settled h) ≡ true) ⊎ (is_none (published h) ≡ true)

-- each swept slot is over
abbrev pub AreSweptSlotsFinal : List ChainEntry → Type 0
AreSweptSlotsFinal h = (s a : ℕ) → is_swept s a h ≡ true → Over (projection s a h)

-- what a slot on chain i counts for: its amount, until it is swept
abbrev pub worth : Setup → ℕ → List ChainEntry → ℕ → ℕ → ℕ
worth m i h s a = if arc_chain m s a == i then (if is_swept s a h then 0 else amount (m.cast s).deal a) else 0

-- what is free and what the slots count for are the opening units
abbrev pub Count : Setup → ℕ → List ChainEntry → Type 0
Count m i h = in_accounts m i (free m i h) + sum_over_arcs m (worth m i h) ≡ in_accounts m i (opening_units m i)

-- What every chain keeps: what is swept is over, and its units add up.
pub record AreSoundChains (m : Setup) (h : Chains) : Type 0 where
  pub over : (i : ℕ) → AreSweptSlotsFinal (h i)
  pub count : (i : ℕ) → i < length m.chains → Count m i (h i)

-- no chain ticked more often than it is high
abbrev pub AreTicksBelowHeights : Kept → Type 0
AreTicksBelowHeights z = (i : ℕ) → (z.clocks i).ticks ≤ (z.clocks i).height

-- What is kept is what a run keeps, and all its chains and swaps are sound.
pub record Keeps (m : Setup) (r : Run) (z : Kept) : Type 0 where
  pub follows : Follows m r z
  pub good : AreGood m z
  pub sound : AreSoundChains m r.chains
  pub timed : AreTicksBelowHeights z
