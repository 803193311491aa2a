use Rattle.std.proofs.Common.{map, option_map, sym, ap, ◌∙◌}
use Rattle.swap_rules.specs.Due.{is_due_claim}
use Rattle.due_calls.proofs.First.{entering_below}
use Rattle.due_calls.specs.Settling.{claim_action}
use Rattle.due_calls.proofs.Settling.{first_claim}
use Rattle.due_calls.proofs.claim.due_claim.Goals as goal

pub returns-clause-first : goal.returns-clause-first
returns-clause-first g c = ap (option_map claim_action) c.first_claim.ensures ∙ sym (first_claim c.args.deal.now c.args.me (map g.F.Facts.entries c.args.known.now))

pub returns-clause-arc : goal.returns-clause-arc
returns-clause-arc g c =
    entering_below (is_due_claim c.args.deal.now c.args.me (map g.F.Facts.entries c.args.known.now)) c.args.deal.now.graph.arcs c.args.me
    c.first_claim.result c.first_claim.ensures
