-- A pass and what it is later.
use Rattle.std.specs.Prelude.{◌≡◌, ℕ, List, slice_index_or, Option, Some, None}
use Rattle.ledger_core.specs.declared.entry.Entry.{Entry}
use Rattle.ledger_shared.specs.Value.{PassState, ClockState, with_seen, clock_with_seen}

-- the pass later, which has seen at least as much
abbrev pub IsLater : PassState → PassState → Type 0
IsLater p q = (more : List Entry) × (q ≡ with_seen p more)

abbrev pub IsClockLater : ClockState → ClockState → Type 0
IsClockLater p q = (more : List Entry) × (q ≡ clock_with_seen p more)

-- the pass at arc a, if any
abbrev pub arc_pass : List (Option PassState) → ℕ → Option PassState
arc_pass ps a = slice_index_or ps a None

abbrev pub arc_clock : List (Option ClockState) → ℕ → Option ClockState
arc_clock ps a = slice_index_or ps a None

-- the pass has gone on, or there is none
abbrev pub Advanced : Option PassState → Option PassState → Type 0
Advanced None q = q ≡ None
Advanced (Some p) q = (r : PassState) × (q ≡ Some r) × IsLater p r

abbrev pub HaveAdvanced : List (Option PassState) → List (Option PassState) → Type 0
HaveAdvanced ps qs = (a : ℕ) → Advanced (arc_pass ps a) (arc_pass qs a)
