-- What a party knows of a swap: one list of entries per arc.
use Rattle.std.specs.Prelude.{◌≡◌, List, map}
use Rattle.swap_digraph.specs.Graph.{arcs}
use Rattle.swap_digraph.specs.declared.deal.Deal.{Deal}
use Rattle.escrow_core.specs.declared.terms.Terms.{Terms}
use Rattle.escrow_core.specs.Terms.{stated_terms}

-- One member per arc, made for the arc's correct terms.
abbrev pub AreDealTerms : {A : Type 0} → (A → Terms) → Deal → List A → Type 0
AreDealTerms terms d known = map terms known ≡ map (stated_terms d) (arcs d.graph)
