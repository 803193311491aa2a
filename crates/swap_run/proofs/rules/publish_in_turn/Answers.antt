use Rattle.std.proofs.Common.{sym, ap, ◌∙◌}
use Rattle.swap_digraph.specs.Graph.{leaving}
use Rattle.swap_run.specs.Rules.{item_in_turn}
use Rattle.swap_run.proofs.Answering.{leaves, around_in}
use Rattle.swap_run.proofs.rules.publish_in_turn.Goals as goal

pub spoiled_terms-requires-clause-arc : goal.spoiled_terms-requires-clause-arc
spoiled_terms-requires-clause-arc c =
    (leaves c.args.deal.now c.args.me c.in-Some.arc
    (around_in (leaving c.args.deal.now.graph c.args.me) c.args.turn c.in-Some.arc
    (sym (c.item_in_turn.ensures ∙ ap (λ l. item_in_turn l c.args.turn) c.leaving.ensures) ∙ c.in-Some.is))).0
