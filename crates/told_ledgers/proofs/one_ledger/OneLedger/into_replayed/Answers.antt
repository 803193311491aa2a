use Rattle.std.proofs.Common.{◌≡◌, rules, arith, ap, ◌∙◌}
use Rattle.ledger_core.specs.History.{height}
use Rattle.ledger_core.proofs.Bounds.{bounds}
use Rattle.told_ledgers.specs.SoFar.{LedgerSoFar}
use Rattle.told_ledgers.proofs.one_ledger.OneLedger.into_replayed.Goals as goal

pub invariant_of-result : goal.invariant_of-result
invariant_of-result c =
    let ledger = c.replay_entry.new.ledger in
    let same : ledger.history ≡ c.push.new.self.list = search rules in
    let low = (bounds ledger.deal ledger.arc ledger.history c.replay_entry.ensures.legal).low in
    let high : height ledger.history ≡ height c.push.new.self.list = ap height same in
    let none : c.self.inside.waiting ≡ 0 = ap (λ (s : LedgerSoFar). s.waiting) c.self.view_is ∙ c.requires.settled in record {
      replayed = same;
      legal = search rules;
      low = omega (arith, low, high, none);
    }
