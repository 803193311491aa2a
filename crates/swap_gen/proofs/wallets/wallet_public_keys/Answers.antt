use Rattle.std.proofs.Common.{◌∙◌, ap, List, ℕ, ◌++◌, ◌∷◌, []}
use Rattle.swap_digraph.proofs.Ranges.{map_more}
use Rattle.hash_signature.specs.Signature.{derive_public_key}
use Rattle.swap_gen.proofs.wallets.wallet_public_keys.Goals as goal

pub locks-preserved : goal.locks-preserved
locks-preserved c =
    map_more (derive_public_key c.args.wallet.now.seed c.args.wallet.now.party) c.locks.lock c.locks.keys.items c.push.new.self.items
    (c.in_ok-push.ensures.items ∙ ap (λ (x : List ℕ). c.locks.keys.items ++ x ∷ []) c.wallet_public_key.ensures) c.locks.invariant
