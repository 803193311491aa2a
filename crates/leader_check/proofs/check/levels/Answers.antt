use Rattle.std.proofs.Common.{◌≡◌, ◌∙◌, sym}
use Rattle.leader_check.specs.Levels.{party_level, greatest_level}
use Rattle.leader_check.proofs.Heights.{is_level, is_height}
use Rattle.leader_check.proofs.Walks.{cycle_is, cycle_no_feedback, none_feedback}
use Rattle.leader_check.proofs.Bounds as bounds
use Rattle.leader_check.proofs.Rows.{length-row, row_at, height_is}
use Rattle.leader_check.proofs.check.levels.Goals as goal

pub returns-in-Some-clause-not_feedback : goal.returns-in-Some-clause-not_feedback
returns-in-Some-clause-not_feedback c =
    cycle_no_feedback c.args.graph.now c.args.leaders.now c.in-Some.cycle
    (cycle_is c.args.graph.now c.args.leaders.now c.in-Some.cycle (sym c.in_ok-cycle.ensures ∙ c.in-Some.is))

pub returns-in-Some-clause-cycle : goal.returns-in-Some-clause-cycle
returns-in-Some-clause-cycle c = cycle_is c.args.graph.now c.args.leaders.now c.in-Some.cycle (sym c.in_ok-cycle.ensures ∙ c.in-Some.is)

pub returns-in-None-clause-feedback : goal.returns-in-None-clause-feedback
returns-in-None-clause-feedback c = none_feedback c.args.graph.now c.args.leaders.now (sym c.in_ok-cycle.ensures ∙ c.in-None.is)

pub returns-in-None-clause-parties : goal.returns-in-None-clause-parties
returns-in-None-clause-parties c =
    length-row (party_level c.args.graph.now c.args.leaders.now) c.args.graph.now.n c.with_greatest.result.level (c.with_greatest.ensures.level
    ∙ c.in_ok-row.ensures)

pub returns-in-None-clause-level : goal.returns-in-None-clause-level
returns-in-None-clause-level c v lt =
    row_at (party_level c.args.graph.now c.args.leaders.now) c.args.graph.now.n v 0 c.with_greatest.result.level (c.with_greatest.ensures.level
    ∙ c.in_ok-row.ensures) lt

pub returns-in-None-clause-longest : goal.returns-in-None-clause-longest
returns-in-None-clause-longest c v lt =
    let e =
    row_at (party_level c.args.graph.now c.args.leaders.now) c.args.graph.now.n v 0 c.with_greatest.result.level (c.with_greatest.ensures.level
    ∙ c.in_ok-row.ensures) lt in
    rw e (is_level c.args.graph.now c.args.leaders.now (none_feedback c.args.graph.now c.args.leaders.now (sym c.in_ok-cycle.ensures ∙ c.in-None.is)) v)

pub returns-in-None-clause-greatest : goal.returns-in-None-clause-greatest
returns-in-None-clause-greatest c = c.with_greatest.ensures.height ∙ height_is c.args.graph.now c.args.leaders.now _ c.in_ok-row.ensures

pub returns-in-None-clause-height : goal.returns-in-None-clause-height
returns-in-None-clause-height c =
    let e : c.with_greatest.result.h ≡ greatest_level c.args.graph.now c.args.leaders.now =
    c.with_greatest.ensures.height ∙ height_is c.args.graph.now c.args.leaders.now _ c.in_ok-row.ensures in
    rw e (is_height c.args.graph.now c.args.leaders.now (none_feedback c.args.graph.now c.args.leaders.now (sym c.in_ok-cycle.ensures ∙ c.in-None.is)))

pub returns-in-None-clause-paths : goal.returns-in-None-clause-paths
returns-in-None-clause-paths c =
    bounds.paths_to_leaders_are_bounded c.args.graph.now c.args.leaders.now c.with_greatest.result.h (returns-in-None-clause-height c)
