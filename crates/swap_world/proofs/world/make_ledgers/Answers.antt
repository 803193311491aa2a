use Rattle.std.proofs.Common.{◌+◌, ◌∙◌, ap, subst, sym}
use Rattle.ledger_core.specs.Value.{LedgerState}
use Rattle.swap_world.specs.Inside.{AreNewLedgers}
use Rattle.swap_world.proofs.Rooms.{new_more}
use Rattle.swap_world.proofs.world.make_ledgers.Goals as goal

pub loop-arc-preserved : goal.loop-arc-preserved
loop-arc-preserved c =
    let d = c.args.deal.now in
    subst (AreNewLedgers d (c.loop-arc.arc + 1)) (sym c.in_ok-push.ensures.items)
    (new_more d c.loop-arc.arc c.loop-arc.ledgers.items c.reserve.new.self c.loop-arc.invariant (record {
      deal = c.reserve.ensures.deal ∙ (ap (λ (l : LedgerState). l.deal) c.in_ok-ledger.ensures ∙ c.in_ok-held.ensures);
      arc = c.reserve.ensures.arc ∙ ap (λ (l : LedgerState). l.arc) c.in_ok-ledger.ensures;
      history = c.reserve.ensures.history ∙ ap (λ (l : LedgerState). l.history) c.in_ok-ledger.ensures;
      room = c.in_ok-reserve.ensures.ok;
    }))
