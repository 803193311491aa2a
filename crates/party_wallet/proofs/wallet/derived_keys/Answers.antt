use Rattle.swap_digraph.proofs.Ranges.{map_more}
use Rattle.std.proofs.Common.{◌∙◌, ap, ◌++◌, ◌∷◌, []}
use Rattle.party_wallet.specs.Keys.{party_public, unspent}
use Rattle.party_wallet.proofs.wallet.derived_keys.Goals as goal

pub locks-preserved : goal.locks-preserved
locks-preserved c = record {
  keys = map_more (unspent c.args.mode c.args.seed.now c.args.party) c.locks.lock c.locks.keys.items _
      (c.in_ok-push.ensures.items ∙ ap (λ k. c.locks.keys.items ++ k ∷ []) c.in_ok-key.ensures.key) c.locks.invariant.keys;
  publics = map_more (party_public c.args.mode c.args.seed.now c.args.party) c.locks.lock c.locks.publics.items _
      (c.in_ok-push-2.ensures.items ∙ ap (λ k. c.locks.publics.items ++ k ∷ []) c.in_ok-key.ensures.public) c.locks.invariant.publics;
}
