use Rattle.std.proofs.Common.{◌∙◌, ap, ◌++◌, ◌∷◌, [], List, ℕ, map}
use Rattle.swap_digraph.proofs.Ranges.{map_more}
use Rattle.swap_many.specs.Inside.{stands}
use Rattle.swap_many.proofs.opening.standing.Goals as goal

pub chains-preserved : goal.chains-preserved
chains-preserved c =
    map_more (λ i. map (stands i) c.args.places.now) c.chains.chain c.chains.on.items c.push.new.self.items
    (c.in_ok-push.ensures.items ∙ ap (λ (x : List (List ℕ)). c.chains.on.items ++ x ∷ []) c.in_ok-stand.ensures) c.chains.invariant
