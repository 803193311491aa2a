use Rattle.std.proofs.Common.{◌∙◌, ap, map, List, ℕ, ◌++◌, ◌∷◌, []}
use Rattle.std.specs.List.{range_with_len}
use Rattle.swap_digraph.proofs.Ranges.{map_more}
use Rattle.hash_signature.specs.Signature.{derive_public_key}
use Rattle.swap_gen.specs.Made.{seed_keys, seed_or_zeros}
use Rattle.swap_gen.proofs.seeds.seed_rows.Goals as goal

pub parties-preserved : goal.parties-preserved
parties-preserved c =
    map_more (seed_keys c.args.seeds.now c.args.deal.now) c.parties.p c.parties.rows.items c.push.new.self.items
    (c.in_ok-push.ensures.items ∙ ap (λ (x : List (List ℕ)). c.parties.rows.items ++ x ∷ []) (c.in_ok-seed_keys.ensures
    ∙ ap (λ k. map (derive_public_key (seed_or_zeros c.args.seeds.now c.parties.p) c.parties.p) (range_with_len 0 k)) c.len-locks.ensures)) c.parties.invariant
