use Rattle.std.proofs.Common.{◌≡◌, ℕ, List, ◌++◌, ◌∷◌, [], ap, ◌∙◌}
use Rattle.swap_world.specs.TouchingArcs.{all_adjacent}
use Rattle.swap_many.specs.TouchingArcs.{swap_adjacent_arcs}
use Rattle.swap_many.specs.Ticking.{nth}
use Rattle.swap_many.specs.Value.{no_world}
use Rattle.swap_many.proofs.Values.{item_is}
use Rattle.swap_many.proofs.Begun.{map_next}
use Rattle.swap_many.proofs.touching_arcs.arcs_by_swap.Goals as goal

pub swaps-preserved : goal.swaps-preserved
swaps-preserved c =
    let k = c.swaps.world-index in
    let ws = c.args.worlds.now in
    let here = item_is ws k no_world c.world-item.result c.swaps-test.true c.world-item.is in
    let lists : c.new.result ≡ swap_adjacent_arcs (nth ws k) =
    c.new.ensures ∙ (c.in_ok-arcs_by_party.ensures ∙ (ap all_adjacent c.deal.ensures.value ∙ ap swap_adjacent_arcs here)) in
    map_next swap_adjacent_arcs ws k no_world c.swaps.all.items c.push.new.self.items c.swaps-test.true
    (c.in_ok-push.ensures.items ∙ ap (λ (x : List (List ℕ)). c.swaps.all.items ++ x ∷ []) lists) c.swaps.invariant
