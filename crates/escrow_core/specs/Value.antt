-- What callers see of a contract.
use Rattle.std.specs.Prelude.{◌≡◌, ◌≤◌, ◌<◌, ◌^◌, ℕ, Bool, true, false, List, length, replicate, slice_index_or, slice_set}
use Rattle.swap_digraph.specs.declared.deal.Deal.{Deal}
use Rattle.swap_digraph.specs.Deal.{party, counterparty}
use Rattle.escrow_core.specs.declared.terms.Terms.{Terms}

pub record ContractState : Type 0 where
  pub arc : ℕ
  -- the arc's two parties
  pub from : ℕ
  pub to : ℕ
  pub terms : Terms
  -- whether each lock is opened
  pub opened : List Bool
  -- whether a claim or a refund was accepted
  pub settled : Bool

-- whether lock i is opened
abbrev pub is_lock_open : ContractState → ℕ → Bool
is_lock_open c i = slice_index_or c.opened i false

-- Terms that a call may state: a hashlock per lock, and numbers in their ranges.
pub record AreFitting (d : Deal) (t : Terms) : Type 0 where
  pub locks : length t.locks ≡ length d.leaders
  pub start : t.start ≤ 1000000
  pub delta : t.delta ≤ 1000000
  pub bound : t.bound ≤ 1000000
  pub timelock : t.timelock ≤ 1000000
  pub amount : t.amount ≤ 10 ^ 12

-- The contract is one of an arc of the deal, with terms that a call may state.
pub record IsDealContract (d : Deal) (c : ContractState) : Type 0 where
  pub arc : c.arc < length d.graph.arcs
  pub from : c.from ≡ party d c.arc
  pub to : c.to ≡ counterparty d c.arc
  pub terms : AreFitting d c.terms
  pub opened : length c.opened ≡ length d.leaders

-- a contract of arc a, where nothing is opened or settled
abbrev pub new_contract : Deal → ℕ → Terms → ContractState
new_contract d a t = record { arc = a; from = party d a; to = counterparty d a; terms = t; opened = replicate (length d.leaders) false; settled = false }

-- after lock i is opened
abbrev pub with_opened : ContractState → ℕ → ContractState
with_opened c i = record c { opened = slice_set c.opened i true }

-- after a claim or a refund
abbrev pub with_settled : ContractState → ContractState
with_settled c = record c { settled = true }
