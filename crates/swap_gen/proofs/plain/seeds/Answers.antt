use Rattle.std.proofs.Common.{◌∙◌, ap, List, ℕ, ◌++◌, ◌∷◌, [], Some}
use Rattle.swap_digraph.proofs.Ranges.{map_more}
use Rattle.swap_gen.specs.Drawn.{drawn_seed}
use Rattle.swap_gen.proofs.plain.seeds.Goals as goal

pub loop-p-preserved : goal.loop-p-preserved
loop-p-preserved c =
    map_more (λ i. Some (drawn_seed c.args.seed i)) c.loop-p.p c.loop-p.seeds.items c.push.new.self.items
    (c.in_ok-push.ensures.items ∙ ap (λ (x : List ℕ). c.loop-p.seeds.items ++ Some x ∷ []) c.make_seed.ensures) c.loop-p.invariant
