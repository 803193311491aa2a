use Rattle.std.proofs.Common.{◌==◌, ap, ◌∙◌}
use Rattle.swap_digraph.specs.Graph.{resolve_all_ends}
use Rattle.conduct_check.proofs.AskedLate.{enters_by_end}
use Rattle.conduct_check.proofs.lates.enters.Goals as goal

pub returns : goal.returns
returns c =
    ap (λ arcs. (resolve_all_ends arcs c.args.arc).to == c.args.party) c.arcs.ensures
    ∙ enters_by_end c.args.deal.now.graph c.args.party c.args.arc c.requires.arc
