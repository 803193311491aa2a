use Rattle.std.proofs.Common.{◌∙◌, sym, subst, ℕ}
use Rattle.swap_digraph.specs.Graph.{IsHeight}
use Rattle.leader_check.proofs.Heights.{is_height}
use Rattle.leader_check.proofs.Rows.{height_is}
use Rattle.leader_check.proofs.check.height.Goals as goal

pub returns-clause-exact : goal.returns-clause-exact
returns-clause-exact c = c.with_greatest.ensures.height ∙ height_is c.args.graph.now c.args.leaders.now _ c.in_ok-row.ensures

pub returns-clause-height : goal.returns-clause-height
returns-clause-height c feedback =
    subst (λ (h : ℕ). IsHeight c.args.graph.now c.args.leaders.now h) (sym (returns-clause-exact c)) (is_height c.args.graph.now c.args.leaders.now feedback)
