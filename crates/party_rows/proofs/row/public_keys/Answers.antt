use Rattle.std.proofs.Common.{◌∙◌, ap, List, ℕ, ◌++◌, ◌∷◌, []}
use Rattle.swap_digraph.proofs.Ranges.{map_more}
use Rattle.hash_signature.specs.Signature.{derive_public_key}
use Rattle.party_rows.proofs.row.public_keys.Goals as goal

pub locks-preserved : goal.locks-preserved
locks-preserved c =
    map_more (derive_public_key c.args.seed.now c.args.party) c.locks.lock c.locks.keys.items c.push.new.self.items
    (c.in_ok-push.ensures.items ∙ ap (λ (x : List ℕ). c.locks.keys.items ++ x ∷ []) c.in_ok-public.ensures.public) c.locks.invariant
