use Rattle.std.proofs.Common.{◌∙◌, ap, List, ℕ, ◌++◌, ◌∷◌, []}
use Rattle.swap_digraph.specs.Graph.{leaving_numbers}
use Rattle.swap_digraph.proofs.Ranges.{map_more}
use Rattle.swap_digraph.proofs.digraph.all_leaving.Goals as goal

pub loop-p-preserved : goal.loop-p-preserved
loop-p-preserved c =
    map_more (leaving_numbers c.args.arcs.now) c.loop-p.p c.loop-p.lists.items c.push.new.self.items
    (c.in_ok-push.ensures.items ∙ ap (λ (x : List ℕ). c.loop-p.lists.items ++ x ∷ []) c.in_ok-leaving_arcs.ensures) c.loop-p.invariant
