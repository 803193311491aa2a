use Rattle.std.proofs.Common.{◌∙◌, ap, ◌++◌, ◌∷◌, []}
use Rattle.swap_digraph.proofs.Ranges.{map_more}
use Rattle.history_index.specs.Value.{IndexState, new_index}
use Rattle.party_machine.proofs.knowledge.build_indexes.Goals as goal

pub arcs-preserved : goal.arcs-preserved
arcs-preserved c =
    map_more (new_index c.args.deal.now) c.arcs.arc c.arcs.known.items c.push.new.self.items
    (c.in_ok-push.ensures.items ∙ ap (λ (x : IndexState). c.arcs.known.items ++ x ∷ []) c.in_ok-new.ensures) c.arcs.invariant
