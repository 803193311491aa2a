use Rattle.std.proofs.Common.{◌≡◌, ◌∙◌, ap, ◌+◌, nat_lt, ℕ, List}
use Rattle.swap_base.specs.Lists.{greatest}
use Rattle.swap_digraph.specs.Graph.{parties}
use Rattle.leader_check.specs.Followers.{is_follower}
use Rattle.leader_check.specs.Levels.{party_level, bounded_level}
use Rattle.leader_check.proofs.Rows.{length-row, levels_next, levels_low, greatest-map}
use Rattle.leader_check.proofs.Decided.{decided}
use Rattle.leader_check.proofs.rounds.levels_rise.Goals as goal

pub next_levels-requires-clause-follows : goal.next_levels-requires-clause-follows
next_levels-requires-clause-follows c =
    length-row (is_follower c.args.graph.now c.args.leaders.now) c.args.graph.now.n c.deref.result.now (c.deref.ensures.value ∙ c.in_ok-follows.ensures)

pub next_levels-requires-clause-row : goal.next_levels-requires-clause-row
next_levels-requires-clause-row c = length-row (party_level c.args.graph.now c.args.leaders.now) c.args.graph.now.n c.args.row.now c.requires.row

pub next_levels-requires-clause-low : goal.next_levels-requires-clause-low
unfolding party_level
next_levels-requires-clause-low c = levels_low c.args.graph.now c.args.leaders.now c.args.graph.now.n c.args.row.now c.requires.row c.requires.parties

pub returns : goal.returns
unfolding party_level
returns c =
    let e =
    levels_next c.args.graph.now c.args.leaders.now c.args.graph.now.n c.deref.result.now c.args.row.now c.in_ok-next.next.items
    (c.deref.ensures.value ∙ c.in_ok-follows.ensures) c.requires.row c.in_ok-next.ensures in
    let most : c.row_maximum.result ≡ greatest (bounded_level c.args.graph.now c.args.leaders.now (c.args.graph.now.n + 1)) (parties c.args.graph.now) =
    c.row_maximum.ensures ∙ ap (λ (xs : List ℕ). greatest (λ x. x) xs) (c.deref-2.ensures.value ∙ e)
    ∙ greatest-map (bounded_level c.args.graph.now c.args.leaders.now (c.args.graph.now.n + 1)) (parties c.args.graph.now) in
    ap (λ (n : ℕ). nat_lt n c.row_maximum.result) c.n.ensures ∙ ap (λ (m : ℕ). nat_lt c.args.graph.now.n m) most ∙ decided c.args.graph.now c.args.leaders.now
