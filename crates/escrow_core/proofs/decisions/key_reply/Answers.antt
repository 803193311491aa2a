use Rattle.std.proofs.Common.{refl}
use Rattle.escrow_core.proofs.KeyRows.{reply_is, too_late, in_time, path_is_short}
use Rattle.escrow_core.proofs.decisions.key_reply.Goals as goal

pub last_unlock-last-requires-clause-few : goal.last_unlock-last-requires-clause-few
last_unlock-last-requires-clause-few c =
    path_is_short c.args.deal.now c.args.arc c.get-hashlock.result c.args.key.now c.requires.sized (c.in-Valid.ensures.valid.0 refl)

pub returns-in-WrongSecret : goal.returns-in-WrongSecret
returns-in-WrongSecret c =
    reply_is c.args.deal.now c.args.arc c.args.terms.now c.args.height c.args.key.now c.get-hashlock.result _ c.get-hashlock.ensures
    c.in-WrongSecret.ensures.first

pub returns-in-WrongPath : goal.returns-in-WrongPath
returns-in-WrongPath c =
    reply_is c.args.deal.now c.args.arc c.args.terms.now c.args.height c.args.key.now c.get-hashlock.result _ c.get-hashlock.ensures
    c.in-WrongPath.ensures.first

pub returns-in-WrongSignature : goal.returns-in-WrongSignature
returns-in-WrongSignature c =
    reply_is c.args.deal.now c.args.arc c.args.terms.now c.args.height c.args.key.now c.get-hashlock.result _ c.get-hashlock.ensures
    c.in-WrongSignature.ensures.first

pub returns-then-last-height : goal.returns-then-last-height
returns-then-last-height c =
    too_late c.args.deal.now c.args.arc c.args.terms.now c.args.height c.args.key.now c.get-hashlock.result c.last_unlock-last.result c.get-hashlock.ensures
    c.in-Valid.ensures.first c.last_unlock-last.ensures c.if-last-height.true

pub returns-else-last-height : goal.returns-else-last-height
returns-else-last-height c =
    in_time c.args.deal.now c.args.arc c.args.terms.now c.args.height c.args.key.now c.get-hashlock.result c.last_unlock-last.result c.get-hashlock.ensures
    c.in-Valid.ensures.first c.last_unlock-last.ensures c.if-last-height.false
