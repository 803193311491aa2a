-- What a clearing tells.
use Rattle.std.proofs.Common.{◌≡◌, ℕ, ◌<◌, ◌≤◌, true, List, length, Ok, sym, subst}
use Rattle.std.proofs.Common.{Result, Err, IfOk, IfErr}
use Rattle.swap_base.specs.Fault.{Gives}
use Rattle.swap_base.specs.declared.fault.Fault.{Fault}
use Rattle.swap_base.specs.declared.fault.Fault.TheVariants.{Refused, NoMemory}
use Rattle.swap_clear.specs.declared.fault.ClearReason.{ClearReason}
use Rattle.swap_clear.specs.Refused.{IfRefused, IsFault}
use Rattle.swap_clear.proofs.Refusals.{clearing_refused}
use Rattle.swap_base.specs.Lists.{IsElement}
use Rattle.swap_base.proofs.Lists.{in_range}
use Rattle.swap_digraph.specs.Graph.{IsStronglyConnected}
use Rattle.swap_clear.specs.declared.proposed.Proposed.{Proposed}
use Rattle.swap_clear.specs.declared.answer.LeftOut.{LeftOut}
use Rattle.swap_clear.specs.declared.answer.Group.{Group}
use Rattle.swap_clear.specs.declared.answer.Clearing.{Clearing}
use Rattle.swap_clear.specs.Proposals.{proposed_graph}
use Rattle.swap_clear.specs.Leaders.{choose_leaders}
use Rattle.swap_clear.specs.Clearing.{cleared_groups}
use Rattle.swap_clear.specs.Cyclic.{TellsLeftOut}
use Rattle.swap_clear.specs.Together.{AreGroups}
use Rattle.swap_clear.specs.Led.{own, IsLed, HasCycles, NoFewerLead, IsBound}
use Rattle.swap_clear.specs.Ready.{AreAmounts, MakesADeal}
use Rattle.swap_clear.proofs.Cyclic.{tells_left_out}
use Rattle.swap_clear.proofs.Gathered.{own_with, the_group, is_head, groups_gathered}
use Rattle.swap_clear.proofs.Together.{are_groups, made}
use Rattle.swap_clear.proofs.Places.{own_strong}
use Rattle.swap_clear.proofs.Leading.{is_led, has_cycles, no_fewer, is_bound}
use Rattle.swap_clear.proofs.Deals.{makes_a_deal}
use Rattle.swap_clear.proofs.ClearedGroups.{cleared}

-- what holds of each clearing that the definition gives holds of the answer
pub if_cleared : (n : ℕ) (arcs : List Proposed) (P : Clearing → Type 0) (r : Result Clearing (Fault ClearReason)) → Gives (λ c. c) r (cleared_groups n arcs)
    → ((c : Clearing) → cleared_groups n arcs ≡ Ok c → P c) → IfOk r P
if_cleared n arcs P (Ok c) gives law = law c gives
if_cleared n arcs P (Err e) gives law = tt

pub if_refused : (n : ℕ) (arcs : List Proposed) (r : Result Clearing (Fault ClearReason)) → Gives (λ c. c) r (cleared_groups n arcs)
    → IfErr r (λ e. IfRefused e (IsFault (proposed_graph n arcs)))
if_refused n arcs (Ok c) gives = tt
if_refused n arcs (Err NoMemory) gives = tt
if_refused n arcs (Err (Refused reason)) gives = clearing_refused n arcs reason gives

module _ (n : ℕ) (arcs : List Proposed) (c : Clearing) (e : cleared_groups n arcs ≡ Ok c) where
  pub left_out : TellsLeftOut (proposed_graph n arcs) c.left_out
  left_out =
      let k = cleared n arcs c e in
      subst (λ (ls : List LeftOut). TellsLeftOut (proposed_graph n arcs) ls) (sym k.left_out) (tells_left_out (proposed_graph n arcs) k.ends)

  pub groups : AreGroups (proposed_graph n arcs) c.groups
  groups = let k = cleared n arcs c e in are_groups (proposed_graph n arcs) c.groups k.ends (groups_gathered (proposed_graph n arcs) c.groups k.groups)

  -- the group of a least party
  record Known (group : Group) : Type 0 where
    pub head : ℕ
    pub party : head < n
    pub is_one : is_head (proposed_graph n arcs) head ≡ true
    pub few : length (choose_leaders (own_with (proposed_graph n arcs) head)) ≤ 8
    pub is : group ≡ the_group (proposed_graph n arcs) head

  known : (group : Group) → IsElement group c.groups → Known group
  known group i =
      let k = cleared n arcs c e in
      let gathered = groups_gathered (proposed_graph n arcs) c.groups k.groups in
      let m = made (proposed_graph n arcs) c.groups gathered group i in
      record { head = m.head; party = m.party; is_one = m.is_one; few = gathered.few m.head (in_range m.head n m.party) m.is_one; is = m.is }

  pub strong : (group : Group) → IsElement group c.groups → IsStronglyConnected (own (proposed_graph n arcs) group)
  strong group i =
      let k = cleared n arcs c e in
      let m = known group i in
      subst (λ (x : Group). IsStronglyConnected (own (proposed_graph n arcs) x)) (sym m.is) (own_strong (proposed_graph n arcs) k.ends m.head m.party)

  pub leaders : (group : Group) → IsElement group c.groups → IsLed (proposed_graph n arcs) group
  leaders group i =
      let k = cleared n arcs c e in
      let m = known group i in
      subst (λ (x : Group). IsLed (proposed_graph n arcs) x) (sym m.is) (is_led (proposed_graph n arcs) k.ends m.head m.party m.is_one m.few)

  pub cycles : (group : Group) → IsElement group c.groups → HasCycles (proposed_graph n arcs) group
  cycles group i =
      let k = cleared n arcs c e in
      let m = known group i in
      subst (λ (x : Group). HasCycles (proposed_graph n arcs) x) (sym m.is) (has_cycles (proposed_graph n arcs) k.ends m.head m.party m.is_one m.few)

  pub fewer : (group : Group) → IsElement group c.groups → NoFewerLead (proposed_graph n arcs) group
  fewer group i =
      let k = cleared n arcs c e in
      let m = known group i in
      subst (λ (x : Group). NoFewerLead (proposed_graph n arcs) x) (sym m.is) (no_fewer (proposed_graph n arcs) k.ends m.head m.party m.is_one m.few)

  pub bound : (group : Group) → IsElement group c.groups → IsBound (proposed_graph n arcs) group
  bound group i =
      let k = cleared n arcs c e in
      let m = known group i in
      subst (λ (x : Group). IsBound (proposed_graph n arcs) x) (sym m.is) (is_bound (proposed_graph n arcs) k.ends m.head m.party m.is_one m.few)

  pub ready : n ≤ 32 → length arcs ≤ 128 → AreAmounts arcs → (group : Group) → IsElement group c.groups → MakesADeal (proposed_graph n arcs) arcs group
  ready small short amounts group i =
      let k = cleared n arcs c e in
      let m = known group i in
      subst (λ (x : Group). MakesADeal (proposed_graph n arcs) arcs x) (sym m.is)
      (makes_a_deal n arcs small short amounts k.ends m.head m.party m.is_one m.few)
