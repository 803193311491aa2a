use Rattle.std.proofs.Common.{◌≡◌, ◌∙◌, ℕ, replicate, arith, ap, rules}
use Rattle.leader_check.specs.Followers.{is_follower}
use Rattle.leader_check.specs.Levels.{bounded_level}
use Rattle.leader_check.proofs.Rows.{levels_none, levels_next, levels_low, levels_all, length-row}
use Rattle.leader_check.proofs.rounds.level_row.Goals as goal

pub loop-round-init : goal.loop-round-init
loop-round-init c =
    let zeros : c.in_ok-row.row.items ≡ replicate {A = ℕ} c.n-n.result 0 = search rules in
    zeros ∙ ap (λ n. replicate {A = ℕ} n 0) c.n-n.ensures ∙ levels_none c.args.graph.now c.args.leaders.now

pub next_levels-requires-clause-follows : goal.next_levels-requires-clause-follows
next_levels-requires-clause-follows c =
    length-row (is_follower c.args.graph.now c.args.leaders.now) c.args.graph.now.n c.deref.result.now (c.deref.ensures.value ∙ c.in_ok-follows.ensures)

pub next_levels-requires-clause-row : goal.next_levels-requires-clause-row
next_levels-requires-clause-row c =
    length-row (bounded_level c.args.graph.now c.args.leaders.now c.loop-round._round) c.args.graph.now.n c.deref-in-loop-round.result.now
    (c.deref-in-loop-round.ensures.value ∙ c.loop-round.invariant)

pub next_levels-requires-clause-low : goal.next_levels-requires-clause-low
next_levels-requires-clause-low c =
    levels_low c.args.graph.now c.args.leaders.now c.loop-round._round c.deref-in-loop-round.result.now (c.deref-in-loop-round.ensures.value
    ∙ c.loop-round.invariant) (omega arith)

pub loop-round-preserved : goal.loop-round-preserved
loop-round-preserved c =
    levels_next c.args.graph.now c.args.leaders.now c.loop-round._round c.deref.result.now c.deref-in-loop-round.result.now c.in_ok-row-2.row.items
    (c.deref.ensures.value ∙ c.in_ok-follows.ensures) (c.deref-in-loop-round.ensures.value ∙ c.loop-round.invariant) c.in_ok-row-2.ensures

pub returns : goal.returns
returns c = levels_all c.args.graph.now c.args.leaders.now c.loop-round._round c.loop-round.row.items c.loop-round.invariant (omega arith)
