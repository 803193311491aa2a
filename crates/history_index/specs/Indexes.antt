-- One index per arc.
use Rattle.std.specs.Prelude.{◌≡◌, List, map}
use Rattle.swap_digraph.specs.Graph.{arcs}
use Rattle.swap_digraph.specs.Deal.{party, counterparty}
use Rattle.swap_digraph.specs.declared.deal.Deal.{Deal}
use Rattle.escrow_core.specs.Terms.{stated_terms}
use Rattle.ledger_core.specs.Book.{Histories}
use Rattle.history_index.specs.Value.{IndexState}

-- the entries of each index
abbrev pub all_entries : List IndexState → Histories
all_entries known = map (λ x. x.entries) known

-- One index per arc, made for the arc.
pub record AreIndexes (d : Deal) (known : List IndexState) : Type 0 where
  pub terms : map (λ x. x.terms) known ≡ map (stated_terms d) (arcs d.graph)
  pub from : map (λ x. x.from) known ≡ map (party d) (arcs d.graph)
  pub to : map (λ x. x.to) known ≡ map (counterparty d) (arcs d.graph)
