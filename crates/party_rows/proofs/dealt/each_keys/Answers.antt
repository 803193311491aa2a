use Rattle.std.proofs.Common.{◌∙◌, ap, List, ℕ, ◌++◌, ◌∷◌, []}
use Rattle.swap_digraph.proofs.Ranges.{map_more}
use Rattle.party_rows.specs.Dealt.{told_keys}
use Rattle.party_rows.proofs.dealt.each_keys.Goals as goal

pub parties-preserved : goal.parties-preserved
parties-preserved c =
    map_more (told_keys c.args.rows.now) c.parties.party c.parties.keys.items c.push.new.self.items
    (c.in_ok-push.ensures.items ∙ ap (λ (x : List (List ℕ)). c.parties.keys.items ++ x ∷ []) c.in_ok-told_keys.ensures) c.parties.invariant
