-- What callers see of an index.
use Rattle.std.specs.Prelude.{◌≡◌, ℕ, List, []}
use Rattle.swap_digraph.specs.declared.deal.Deal.{Deal}
use Rattle.swap_digraph.specs.Deal.{party, counterparty}
use Rattle.escrow_core.specs.declared.terms.Terms.{Terms}
use Rattle.escrow_core.specs.Terms.{stated_terms}
use Rattle.ledger_core.specs.declared.entry.Entry.{Entry}

pub record IndexState : Type 0 where
  pub arc : ℕ
  -- the arc's two parties
  pub from : ℕ
  pub to : ℕ
  -- the arc's correct terms
  pub terms : Terms
  pub entries : List Entry
  -- how many further calls have room
  pub spare : ℕ

-- the index of arc a without entries
abbrev pub new_index : Deal → ℕ → IndexState
new_index d a = record { arc = a; from = party d a; to = counterparty d a; terms = stated_terms d a; entries = []; spare = 0 }

-- Both are of one arc, with the same parties and terms.
pub record IsSameArc (old new : IndexState) : Type 0 where
  pub arc : new.arc ≡ old.arc
  pub from : new.from ≡ old.from
  pub to : new.to ≡ old.to
  pub terms : new.terms ≡ old.terms
