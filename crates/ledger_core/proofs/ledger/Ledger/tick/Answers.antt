use Rattle.std.proofs.Common.{◌+◌, arith, refl}
use Rattle.ledger_core.proofs.Bounds.{bounds, countable}
use Rattle.ledger_core.proofs.Scans.{legal_tick, tick_scans}
use Rattle.ledger_core.proofs.ledger.Ledger.tick.Goals as goal

pub overflow_add-self-inside : goal.overflow_add-self-inside
overflow_add-self-inside c =
    let l = c.self.inside in
    let k = c.self.invariant.scans in
    let low = (bounds l.deal l.arc l.history.list k.legal).low in
    let same = k.height in
    let below = c.requires.below in
    omega arith

pub tick-requires-clause-few : goal.tick-requires-clause-few
tick-requires-clause-few c =
    let l = c.self.inside in
    let few = (countable l.deal l.arc l.history.list c.self.invariant.scans.legal).count in
    omega arith

pub invariant_of-self : goal.invariant_of-self
invariant_of-self c =
    let l = c.self.inside in
    let i = c.self.invariant in
    record {
      sized = i.sized;
      arc = i.arc;
      party = i.party;
      counterparty = i.counterparty;
      scans =
          rw c.tick.ensures.list
          (tick_scans l.deal l.arc l.history.list l.height (l.height + c.args.k) l.accounts l.contract l.party_calls l.counterparty_calls l.ticks
          (l.ticks + 1) c.args.k i.scans
          (legal_tick l.history.list l.height l.ticks c.args.k i.scans.height i.scans.ticks c.requires.some c.requires.below c.if-self-ge20000.false
          c.if-self-k-gt1000000.false) refl);
    }

pub returns-clause-legal : goal.returns-clause-legal
returns-clause-legal c = (invariant_of-self c).scans.legal
