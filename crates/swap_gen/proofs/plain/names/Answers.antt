use Rattle.std.proofs.Common.{◌∙◌, ap, List, ℕ, ◌++◌, ◌∷◌, []}
use Rattle.swap_digraph.proofs.Ranges.{map_more}
use Rattle.swap_gen.specs.Drawn.{drawn_party_label}
use Rattle.swap_gen.proofs.plain.names.Goals as goal

pub loop-p-preserved : goal.loop-p-preserved
loop-p-preserved c =
    map_more drawn_party_label c.loop-p.p c.loop-p.names.items c.push.new.self.items
    (c.in_ok-push.ensures.items ∙ ap (λ (x : List ℕ). c.loop-p.names.items ++ x ∷ []) c.in_ok-drawn_party_label.ensures) c.loop-p.invariant
