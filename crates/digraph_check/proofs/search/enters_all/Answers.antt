use Rattle.std.proofs.Common.{◌∙◌, sym}
use Rattle.digraph_check.specs.Tree.{is_entered}
use Rattle.digraph_check.proofs.ListTests.{list_all-more, list_all-fails_at}
use Rattle.digraph_check.proofs.search.enters_all.Goals as goal

pub returns-then-not-is_entered : goal.returns-then-not-is_entered
returns-then-not-is_entered c =
    sym (list_all-fails_at (is_entered c.args.tree.now) _ c.loop-v.v c.loop-v-test.true (sym c.is_entered.ensures ∙ c.if-not-is_entered.true))

pub loop-v-preserved : goal.loop-v-preserved
loop-v-preserved c = list_all-more (is_entered c.args.tree.now) c.loop-v.v c.loop-v.invariant (sym c.is_entered.ensures ∙ c.if-not-is_entered.false)
