-- When a machine that has nothing to do may rest.
use Rattle.std.specs.Prelude.{◌≡◌, ℕ, ◌≤◌, Bool, true, nat_le, Option, Some, None, if◌then◌else◌}
use Rattle.swap_base.specs.Lists.{IsElement}
use Rattle.swap_digraph.specs.Graph.{leaving}
use Rattle.ledger_core.specs.Book.{history}
use Rattle.swap_rules.specs.Party.{least_expiry}
use Rattle.swap_rules.specs.Rest.{is_waiting, rest_deadline}
use Rattle.party_machine.specs.Machine.{MachineState, next_due}
use Rattle.party_machine.specs.declared.rest.Rest.{Rest}
use Rattle.party_machine.specs.declared.rest.Rest.TheVariants.{Awake, Until}

-- what is left of rest after more entries, which bring a ledger to that height; `ticks` tells
-- whether they are all ticks
abbrev pub remaining_rest : Rest → (ticks : Bool) → ℕ → Rest
remaining_rest (Until None) true height = Until None
remaining_rest (Until (Some t)) true height = if nat_le height t then Until (Some t) else Awake
remaining_rest _ _ height = Awake

-- rest up to that height, if any, ends with the height of an expiry or before
abbrev pub EndsByExpiry : Option ℕ → ℕ → Type 0
EndsByExpiry None expiry = ⊥
EndsByExpiry (Some t) expiry = t ≤ expiry

-- Nothing is due, and rest ends by the least expiry of each refund that the machine waits for.
pub record IsAtRest (until : Option ℕ) (m : MachineState) : Type 0 where
  pub nothing : next_due m ≡ None
  pub ends : (a : ℕ) → IsElement a (leaving m.deal.graph m.me) → is_waiting m.deal m.me m.known a ≡ true
      → EndsByExpiry until (least_expiry m.deal a (history m.known a))

-- a machine that rests may, and does so up to the least of the least expiries that it waits for
abbrev pub MayRest : Rest → MachineState → Type 0
MayRest Awake m = Unit {0}
MayRest (Until until) m = (until ≡ rest_deadline m.deal m.me m.known) × IsAtRest until m

-- the height that stands for rest up to that height, if any: the greatest that a ledger reaches,
-- where no tick ends the rest
abbrev pub rest_end_height : Option ℕ → ℕ
rest_end_height None = 4294967295
rest_end_height (Some t) = t
