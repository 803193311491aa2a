use Rattle.std.proofs.Common.{◌≡◌, ◌∙◌, ap, ℕ, replicate, arith, rules, slice_index}
use Rattle.leader_check.proofs.Rows.{length-row, row_at}
use Rattle.leader_check.specs.Distance.{bounded_distance}
use Rattle.leader_check.proofs.Far.{dist_is, dist_bounded, dist_by_rounds}
use Rattle.leader_check.proofs.FarRounds.{dists_none, dists_next, dists_low}
use Rattle.leader_check.proofs.distances.dist.Goals as goal

pub loop-round-init : goal.loop-round-init
loop-round-init c =
    let zeros : c.in_ok-row.row.items ≡ replicate {A = ℕ} c.n.result 0 = search rules in
    zeros ∙ ap (λ n. replicate {A = ℕ} n 0) c.n.ensures ∙ dists_none c.args.graph.now c.args.leader

pub next_dists-requires-clause-row : goal.next_dists-requires-clause-row
next_dists-requires-clause-row c =
    length-row (bounded_distance c.args.graph.now c.args.leader c.loop-round._round) c.args.graph.now.n c.deref.result.now (c.deref.ensures.value
    ∙ c.loop-round.invariant)

pub next_dists-requires-clause-low : goal.next_dists-requires-clause-low
next_dists-requires-clause-low c =
    dists_low c.args.graph.now c.args.leader c.loop-round._round c.deref.result.now (c.deref.ensures.value ∙ c.loop-round.invariant) (omega arith)

pub loop-round-preserved : goal.loop-round-preserved
loop-round-preserved c =
    dists_next c.args.graph.now c.args.leader c.loop-round._round c.deref.result.now c.in_ok-row-2.row.items (c.deref.ensures.value
    ∙ c.loop-round.invariant) c.in_ok-row-2.ensures

pub returns-clause-parties : goal.returns-clause-parties
returns-clause-parties c =
    length-row (bounded_distance c.args.graph.now c.args.leader c.loop-round._round) c.args.graph.now.n c.new.result (c.new.ensures ∙ c.loop-round.invariant)

pub returns-clause-dist : goal.returns-clause-dist
returns-clause-dist c v lt =
    let e : c.loop-round._round ≡ c.args.levels.now.h = omega arith in
    row_at (bounded_distance c.args.graph.now c.args.leader c.loop-round._round) c.args.graph.now.n v 0 c.new.result (c.new.ensures ∙ c.loop-round.invariant) lt
    ∙ ap (λ k. bounded_distance c.args.graph.now c.args.leader k v) e
    ∙ dist_by_rounds c.args.graph.now c.args.leader c.requires.ends c.requires.strong c.requires.leader c.requires.feedback c.args.levels.now.h v
    c.requires.levels lt

pub returns-clause-longest : goal.returns-clause-longest
returns-clause-longest c v lt =
    let e : c.loop-round._round ≡ c.args.levels.now.h = omega arith in
    let r : slice_index c.new.result v ≡ bounded_distance c.args.graph.now c.args.leader c.args.levels.now.h v =
    row_at (bounded_distance c.args.graph.now c.args.leader c.loop-round._round) c.args.graph.now.n v 0 c.new.result (c.new.ensures
    ∙ c.loop-round.invariant) lt ∙ ap (λ k. bounded_distance c.args.graph.now c.args.leader k v) e in
    rw r (dist_is c.args.graph.now c.args.leader c.requires.ends c.requires.strong c.requires.leader c.requires.feedback c.args.levels.now.h
    c.args.levels.now.h v c.requires.levels (omega arith) lt)

pub returns-clause-bounded : goal.returns-clause-bounded
returns-clause-bounded c v lt =
    let e : c.loop-round._round ≡ c.args.levels.now.h = omega arith in
    let r : slice_index c.new.result v ≡ bounded_distance c.args.graph.now c.args.leader c.args.levels.now.h v =
    row_at (bounded_distance c.args.graph.now c.args.leader c.loop-round._round) c.args.graph.now.n v 0 c.new.result (c.new.ensures
    ∙ c.loop-round.invariant) lt ∙ ap (λ k. bounded_distance c.args.graph.now c.args.leader k v) e in
    rw r (dist_bounded c.args.graph.now c.args.leader c.requires.ends c.requires.strong c.requires.leader c.requires.feedback c.args.levels.now.h v
    (bounded_distance c.args.graph.now c.args.leader c.args.levels.now.h v) c.requires.levels
    (dist_is c.args.graph.now c.args.leader c.requires.ends c.requires.strong c.requires.leader c.requires.feedback c.args.levels.now.h
    c.args.levels.now.h v c.requires.levels (omega arith) lt))
