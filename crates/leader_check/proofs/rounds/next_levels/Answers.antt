use Rattle.std.proofs.Common.{◌∙◌, ap, ℕ, cond, ◌+◌, ◌++◌, ◌∷◌, [], slice_index, arith}
use Rattle.std.proofs.lemmas.Grind.{get_or_default_zero}
use Rattle.swap_digraph.proofs.Ranges.{map_more}
use Rattle.leader_check.specs.Followers.{is_marked_place}
use Rattle.leader_check.specs.Levels.{greatest_prior_value}
use Rattle.leader_check.proofs.Heights.{before-below}
use Rattle.leader_check.proofs.rounds.next_levels.Goals as goal

pub raised_level-requires : goal.raised_level-requires
raised_level-requires c =
    let s = c.in_ok-most.ensures.parties in
    let e =
    c.index.ensures ∙ get_or_default_zero c.in_ok-most.most.items c.loop-v.v c.index.result.now (omega (arith, s))
    ∙ c.in_ok-most.ensures.most c.loop-v.v (omega arith) in
    rw e (before-below c.args.graph.now (slice_index c.args.row.now) c.loop-v.v 32 c.requires.low)

pub loop-v-preserved : goal.loop-v-preserved
loop-v-preserved c =
    let s = c.in_ok-most.ensures.parties in
    let e =
    c.index.ensures ∙ get_or_default_zero c.in_ok-most.most.items c.loop-v.v c.index.result.now (omega (arith, s))
    ∙ c.in_ok-most.ensures.most c.loop-v.v (omega arith) in
    map_more (λ v. cond (is_marked_place c.args.follows.now v) (greatest_prior_value c.args.graph.now (slice_index c.args.row.now) v + 1) 0) c.loop-v.v c.loop-v.next.items
    c.push.new.self.items
    (c.in_ok-push.ensures.items ∙ ap (λ (x : ℕ). c.loop-v.next.items ++ x ∷ []) (c.raised_level.ensures
    ∙ ap (λ (m : ℕ). cond (is_marked_place c.args.follows.now c.loop-v.v) (m + 1) 0) e)) c.loop-v.invariant
