use Rattle.std.proofs.Common.{map}
use Rattle.due_calls.proofs.First.{leaving_below}
use Rattle.due_calls.proofs.Publishing.{unpublished, may, may_not}
use Rattle.due_calls.proofs.publish.due_publish.Goals as goal

pub returns-clause-first : goal.returns-clause-first
returns-clause-first g c =
    may c.args.deal.now c.args.me (map g.F.Facts.entries c.args.known.now) c.may_publish.result c.first_unpublished.result c.may_publish.ensures
    c.if-not-may_publish.false c.first_unpublished.ensures

pub returns-clause-arc : goal.returns-clause-arc
returns-clause-arc g c =
    leaving_below (unpublished c.args.me (map g.F.Facts.entries c.args.known.now)) c.args.deal.now.graph.arcs c.args.me c.first_unpublished.result
    c.first_unpublished.ensures

pub returns-then-not-may_publish-clause-first : goal.returns-then-not-may_publish-clause-first
returns-then-not-may_publish-clause-first g c =
    may_not c.args.deal.now c.args.me (map g.F.Facts.entries c.args.known.now) c.may_publish.result c.may_publish.ensures c.if-not-may_publish.true
