use Rattle.std.proofs.Common.{ℕ, List, ◌∙◌, ap, ◌++◌, ◌∷◌, []}
use Rattle.swap_digraph.proofs.Ranges.{map_more}
use Rattle.swap_run.specs.Fair.{adjacent_arcs}
use Rattle.swap_world.proofs.touching_arcs.arcs_by_party.Goals as goal

pub parties-preserved : goal.parties-preserved
parties-preserved c =
    map_more (adjacent_arcs c.args.deal.now) c.parties.p c.parties.all.items c.push.new.self.items
    (c.in_ok-push.ensures.items ∙ ap (λ (x : List ℕ). c.parties.all.items ++ x ∷ []) c.in_ok-adjacent_arcs.ensures) c.parties.invariant
