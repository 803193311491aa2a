use Rattle.std.proofs.Common.{◌∙◌, ap, ℕ, cond, ◌==◌, ◌+◌, ◌++◌, ◌∷◌, [], slice_index, arith}
use Rattle.std.proofs.lemmas.Grind.{get_or_default_zero}
use Rattle.swap_digraph.proofs.Ranges.{map_more}
use Rattle.leader_check.specs.Distance.{prior_distance}
use Rattle.leader_check.proofs.Far.{after-below, before_is}
use Rattle.leader_check.proofs.distances.next_dists.Goals as goal

pub extended_distance-requires : goal.extended_distance-requires
extended_distance-requires c =
    let s = c.in_ok-most.ensures.parties in
    let e =
    c.index.ensures ∙ get_or_default_zero c.in_ok-most.most.items c.loop-v.v c.index.result.now (omega (arith, s))
    ∙ c.in_ok-most.ensures.most c.loop-v.v (omega arith) in
    rw e (after-below c.args.graph.now (slice_index c.args.row.now) c.loop-v.v 255 c.requires.low)

pub loop-v-preserved : goal.loop-v-preserved
loop-v-preserved c =
    let s = c.in_ok-most.ensures.parties in
    let e =
    c.index.ensures ∙ get_or_default_zero c.in_ok-most.most.items c.loop-v.v c.index.result.now (omega (arith, s))
    ∙ c.in_ok-most.ensures.most c.loop-v.v (omega arith) in
    map_more (prior_distance c.args.graph.now c.args.leader (slice_index c.args.row.now)) c.loop-v.v c.loop-v.next.items c.push.new.self.items
    (c.in_ok-push.ensures.items ∙ ap (λ (x : ℕ). c.loop-v.next.items ++ x ∷ []) (c.extended_distance.ensures
    ∙ ap (λ (m : ℕ). cond (c.args.leader == c.loop-v.v) 0 (m + 1)) e
    ∙ before_is c.args.graph.now c.args.leader (slice_index c.args.row.now) c.loop-v.v (omega arith))) c.loop-v.invariant
