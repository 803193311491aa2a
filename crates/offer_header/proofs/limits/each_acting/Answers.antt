use Rattle.std.proofs.lemmas.Result.{err_from_is_err_and}
use Rattle.offer_moves.proofs.Lists.{starts, ends}
use Rattle.offer_header.specs.Limits.{parse_acting}
use Rattle.offer_header.proofs.limits.each_acting.Goals as goal

pub loop-party-init : goal.loop-party-init
loop-party-init c = rw c.new-list.ensures.items (starts (parse_acting c.args.sizes c.args.names.now c.args.line) c.args.parties.now)

pub returns-in_err-parse_acting : goal.returns-in_err-parse_acting
returns-in_err-parse_acting c =
    let p = err_from_is_err_and c.from_residual.result c.from_residual.ensures.1 in
    rw (p.1, p.2) (ends (parse_acting c.args.sizes c.args.names.now c.args.line) c.in_err-parse_acting.field-0.0 c.loop-party.list.items c.args.parties.now
    c.loop-party.party-index c.party-item.result _ c.loop-party-test.true c.party-item.is c.in_err-parse_acting.ensures c.loop-party.invariant)
