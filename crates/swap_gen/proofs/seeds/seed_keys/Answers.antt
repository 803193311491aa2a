use Rattle.std.proofs.Common.{◌∙◌, ap, List, ℕ, ◌++◌, ◌∷◌, []}
use Rattle.swap_digraph.proofs.Ranges.{map_more}
use Rattle.hash_signature.specs.Signature.{derive_public_key}
use Rattle.swap_gen.specs.Made.{seed_or_zeros}
use Rattle.swap_gen.proofs.seeds.seed_keys.Goals as goal

pub locks-preserved : goal.locks-preserved
locks-preserved c =
    map_more (derive_public_key (seed_or_zeros c.args.seeds.now c.args.p) c.args.p) c.locks.lock c.locks.keys.items c.push.new.self.items
    (c.in_ok-push.ensures.items ∙ ap (λ (x : List ℕ). c.locks.keys.items ++ x ∷ []) (c.in_ok-public.ensures.public
    ∙ ap (λ (s : List ℕ). derive_public_key s c.args.p c.locks.lock) c.seed_or_zeros-seed.ensures)) c.locks.invariant
