use Rattle.std.proofs.Common.{◌∙◌, ap, List, ℕ, ◌-◌, ◌++◌, [], arith}
use Rattle.std.proofs.lemmas.List.{get_or_read}
use Rattle.leader_check.specs.Cycles.{has_bit, has_row_bit, first_step, least_walk}
use Rattle.leader_check.proofs.Rows.{walk_goes_on, walk_ends}
use Rattle.leader_check.proofs.cycle.least_walk.Goals as goal

pub loop-left-preserved : goal.loop-left-preserved
loop-left-preserved c =
    record {
      in_range = omega arith;
      walk =
          ap (λ (xs : List ℕ). xs ++ least_walk c.args.graph.now (has_row_bit c.args.rows.now c.args.v) (c.loop-left.left - 1) c.first_step-u.result)
          c.in_ok-push.ensures.items
          ∙ walk_goes_on c.args.graph.now (has_row_bit c.args.rows.now c.args.v) c.loop-left.left c.loop-left.u c.first_step-u.result
          c.loop-left.list.items _ (omega arith)
          (c.first_step-u.ensures ∙ ap (λ (row : List ℕ). first_step c.args.graph.now (has_bit row c.args.v) c.loop-left.u) (c.as_slice.ensures
          ∙ get_or_read c.args.rows.now (c.loop-left.left - 1) c.index-rows-left.result (omega arith) c.index-rows-left.is []))
          c.loop-left.invariant.walk;
    }

pub returns : goal.returns
returns c =
    c.new.ensures ∙ walk_ends c.args.graph.now (has_row_bit c.args.rows.now c.args.v) c.loop-left.left c.loop-left.u c.loop-left.list.items _
    (omega arith) c.loop-left.invariant.walk
