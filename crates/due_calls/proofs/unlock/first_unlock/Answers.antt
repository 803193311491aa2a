use Rattle.std.proofs.Common.{map, length, sym, ◌∙◌, arith}
use Rattle.due_calls.specs.DueUnlock.{next_due_unlock}
use Rattle.party_wallet.specs.Value.{signed_hashkey}
use Rattle.due_calls.proofs.Numbers.{none_more, is_found}
use Rattle.due_calls.proofs.unlock.first_unlock.Goals as goal

pub returns-then-is_some : goal.returns-then-is_some
returns-then-is_some g c =
    let e = c.len-lock-end.ensures in
    is_found (next_due_unlock c.args.deal.now c.args.me (signed_hashkey c.args.signed.now.keys) (map g.F.Facts.entries c.args.known.now)) c.loop-lock.lock
    (length c.args.deal.now.leaders) c.next_due_unlock-found.result (omega (arith, e, c.loop-lock-test.true)) c.loop-lock.invariant
    c.next_due_unlock-found.ensures (sym c.is_some.ensures ∙ c.if-is_some.true)

pub loop-lock-preserved : goal.loop-lock-preserved
loop-lock-preserved g c =
    none_more (next_due_unlock c.args.deal.now c.args.me (signed_hashkey c.args.signed.now.keys) (map g.F.Facts.entries c.args.known.now)) c.loop-lock.lock
    c.next_due_unlock-found.result c.loop-lock.invariant c.next_due_unlock-found.ensures (sym c.is_some.ensures ∙ c.if-is_some.false)
