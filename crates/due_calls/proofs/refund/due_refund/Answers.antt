use Rattle.std.proofs.Common.{map, option_map, sym, ap, ◌∙◌}
use Rattle.swap_rules.specs.Due.{is_due_refund}
use Rattle.due_calls.proofs.First.{leaving_below}
use Rattle.due_calls.specs.Settling.{refund_action}
use Rattle.due_calls.proofs.Settling.{first_refund}
use Rattle.due_calls.proofs.refund.due_refund.Goals as goal

pub returns-clause-first : goal.returns-clause-first
returns-clause-first g c =
    ap (option_map refund_action) c.first_refund.ensures ∙ sym (first_refund c.args.deal.now c.args.me (map g.F.Facts.entries c.args.known.now))

pub returns-clause-arc : goal.returns-clause-arc
returns-clause-arc g c =
    leaving_below (is_due_refund c.args.deal.now c.args.me (map g.F.Facts.entries c.args.known.now)) c.args.deal.now.graph.arcs c.args.me
    c.first_refund.result c.first_refund.ensures
