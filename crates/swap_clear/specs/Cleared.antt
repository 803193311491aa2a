-- What is cleared of a line of wishes, or the first reason why the line is refused.
use Rattle.std.specs.Prelude.{◌==◌, ℕ, ◌<◌, nat_lt, List, length, position, Option, Some, None, Result, Ok, Err, if◌then◌else◌}
use Rattle.swap_base.specs.Fault.{◌>>=◌}
use Rattle.swap_base.specs.Lists.{IsElement}
use Rattle.swap_base.specs.declared.fault.Fault.{Fault}
use Rattle.swap_base.specs.declared.fault.Fault.TheVariants.{Refused, NoMemory}
use Rattle.swap_digraph.specs.Value.{Graph}
use Rattle.swap_digraph.specs.Graph.{IsStronglyConnected}
use Rattle.command_input.specs.declared.reason.Reason.{Reason}
use Rattle.command_input.specs.declared.reason.Reason.TheVariants as reasons
use Rattle.swap_clear.specs.Proposals.{proposed_graph}
use Rattle.swap_clear.specs.Clearing.{cleared_groups}
use Rattle.swap_clear.specs.Cyclic.{TellsLeftOut}
use Rattle.swap_clear.specs.Together.{AreGroups}
use Rattle.swap_clear.specs.Led.{own, IsLed, HasCycles, NoFewerLead, IsBound}
use Rattle.swap_clear.specs.Ready.{MakesADeal}
use Rattle.swap_clear.specs.declared.answer.Group.{Group}
use Rattle.swap_clear.specs.declared.answer.Clearing.{Clearing}
use Rattle.swap_clear.specs.declared.fault.ClearReason.{ClearReason}
use Rattle.swap_clear.specs.declared.fault.ClearReason.TheVariants.{OutOfRange, SelfArc, TooManyLeaders}
use Rattle.swap_clear.specs.declared.proposed.Proposed.{Proposed}
use Rattle.swap_clear.specs.Limits.{parse_wish_text}
use Rattle.swap_clear.specs.declared.limits.Wishes.{Wishes}
use Rattle.swap_clear.specs.declared.cleared.Cleared.{Cleared}

-- the least arc that leads from a party to itself
abbrev pub first_self : List Proposed → Option ℕ
first_self arcs = position (λ p. p.from == p.to) arcs

abbrev pub unless_self : Option ℕ → Result (Unit {0}) Reason
unless_self None = Ok tt
unless_self (Some arc) = Err (reasons.SelfArc arc)

-- no arc leads from a party to itself
unfoldable pub without_self_arcs : List Proposed → Result (Unit {0}) Reason
without_self_arcs arcs = unless_self (first_self arcs)

-- the start is at least delta
unfoldable pub wished_start : (start delta : ℕ) → Result (Unit {0}) Reason
wished_start start delta = if nat_lt start delta then Err (reasons.StartTooSoon start delta) else Ok tt

-- A reason of the proposals. The ends of a line's arcs are parties, and none leads from a party to
-- itself, so that the first two never come.
abbrev pub clear_reason : ClearReason → Reason
clear_reason (OutOfRange arc) = reasons.SelfArc arc
clear_reason (SelfArc arc) = reasons.SelfArc arc
clear_reason (TooManyLeaders group count) = reasons.TooManyLeaders group count

abbrev pub clear_offer_fault : Fault ClearReason → Fault Reason
clear_offer_fault (Refused reason) = Refused (clear_reason reason)
clear_offer_fault NoMemory = NoMemory

-- an arc that a reason names has a small number
abbrev pub small : ClearReason → Type 0
small (OutOfRange arc) = arc < 256
small (SelfArc arc) = arc < 256
small (TooManyLeaders group count) = Unit {0}

abbrev pub by_clearing : {A : Type 0} → Result A ClearReason → Result A Reason
by_clearing (Ok x) = Ok x
by_clearing (Err reason) = Err (clear_reason reason)

-- what of the wishes can be swapped: first the ends of the arcs, then the start, then the leaders
unfoldable pub make_clearing : Wishes → Result Clearing Reason
make_clearing w = do
  u ← without_self_arcs w.arcs
  v ← wished_start w.start w.delta
  by_clearing (cleared_groups (length w.names) w.arcs)

-- what is cleared of a line, or the first reason why it is refused
unfoldable pub parse_cleared : ℕ → List ℕ → Result Cleared Reason
parse_cleared line text = do
  wishes ← parse_wish_text line text
  clearing ← make_clearing wishes
  Ok (record { wishes = wishes; clearing = clearing })

-- What holds of a clearing of proposals: what is left out lies on no cycle, and each group makes a
-- deal.
pub record IsShownClearing (g : Graph) (arcs : List Proposed) (c : Clearing) : Type 0 where
  pub left_out : TellsLeftOut g c.left_out
  pub groups : AreGroups g c.groups
  pub strong : (group : Group) → IsElement group c.groups → IsStronglyConnected (own g group)
  pub leaders : (group : Group) → IsElement group c.groups → IsLed g group
  pub cycles : (group : Group) → IsElement group c.groups → HasCycles g group
  pub no_fewer : (group : Group) → IsElement group c.groups → NoFewerLead g group
  pub bound : (group : Group) → IsElement group c.groups → IsBound g group
  pub ready : (group : Group) → IsElement group c.groups → MakesADeal g arcs group

-- what is cleared of wishes shows so
abbrev pub Shows : Cleared → Type 0
Shows c = IsShownClearing (proposed_graph (length c.wishes.names) c.wishes.arcs) c.wishes.arcs c.clearing
