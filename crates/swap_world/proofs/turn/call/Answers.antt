use Rattle.std.proofs.Common.{sym, ◌∙◌}
use Rattle.swap_world.proofs.Turns.{called}
use Rattle.swap_world.proofs.On.{landed_is}
use Rattle.swap_world.proofs.turn.call.Goals as goal

pub returns-in_err-reserve-clause-leaves : goal.returns-in_err-reserve-clause-leaves
returns-in_err-reserve-clause-leaves c =
    let l = c.args.ledger.now in
    landed_is c.args.swept l.deal l.arc c.args.sender c.args.call l.history c.reserve.new.self.history (sym c.is_barred.ensures ∙ c.if-is_barred.false)
    (c.reserve.ensures.history
    ∙ (called l c.apply-reply.new.self c.args.sender c.args.call c.apply-reply.result c.apply-reply.ensures.reply c.apply-reply.ensures.full
    c.apply-reply.ensures.kept).history)

pub returns-clause-leaves : goal.returns-clause-leaves
returns-clause-leaves c =
    let l = c.args.ledger.now in
    landed_is c.args.swept l.deal l.arc c.args.sender c.args.call l.history c.reserve.new.self.history (sym c.is_barred.ensures ∙ c.if-is_barred.false)
    (c.reserve.ensures.history
    ∙ (called l c.apply-reply.new.self c.args.sender c.args.call c.apply-reply.result c.apply-reply.ensures.reply c.apply-reply.ensures.full
    c.apply-reply.ensures.kept).history)
