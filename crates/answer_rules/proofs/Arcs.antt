-- Arcs next to a party.
use Rattle.std.proofs.Common.{◌≡◌, ℕ, ◌<◌, true, List, length, sym, ap, ◌∙◌}
use Rattle.std.proofs.lemmas.List.{length-map}
use Rattle.swap_base.proofs.Lists.{length-range}
use Rattle.swap_digraph.specs.declared.deal.Deal.{Deal}
use Rattle.swap_digraph.specs.Graph.{arcs, leaving, is_listed}
use Rattle.swap_digraph.proofs.Paths.{is_listed-true}
use Rattle.history_index.specs.Value.{IndexState}
use Rattle.history_index.specs.Indexes.{AreIndexes}
use Rattle.escrow_core.specs.Terms.{stated_terms}
use Rattle.swap_rules.proofs.Words.{leaves}

-- an arc that leaves a party is one of the deal
pub leaving_below : (d : Deal) (v a : ℕ) → is_listed a (leaving d.graph v) ≡ true → a < length d.graph.arcs
leaving_below d v a e = (leaves d v a (is_listed-true a (leaving d.graph v) e)).0

-- there is one index per arc
pub one_each : (d : Deal) (known : List IndexState) → AreIndexes d known → length known ≡ length d.graph.arcs
one_each d known are =
    sym (length-map known (λ x. x.terms))
    ∙ (ap length are.terms ∙ (length-map (arcs d.graph) (stated_terms d) ∙ length-range 0 (length d.graph.arcs)))
