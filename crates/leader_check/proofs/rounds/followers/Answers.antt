use Rattle.std.proofs.Common.{◌∙◌, ap, sym, Bool, ◌++◌, ◌∷◌, [], arith}
use Rattle.swap_digraph.proofs.Ranges.{map_more}
use Rattle.leader_check.specs.Followers.{is_follower}
use Rattle.leader_check.proofs.Followers.{follower_is}
use Rattle.leader_check.proofs.rounds.followers.Goals as goal

pub loop-v-preserved : goal.loop-v-preserved
loop-v-preserved c =
    map_more (is_follower c.args.graph.now c.args.leaders.now) c.loop-v.v c.loop-v.row.items c.push.new.self.items
    (c.in_ok-push.ensures.items ∙ ap (λ (x : Bool). c.loop-v.row.items ++ x ∷ []) (c.follows.ensures
    ∙ sym (follower_is c.args.graph.now c.args.leaders.now c.loop-v.v (omega arith)))) c.loop-v.invariant
