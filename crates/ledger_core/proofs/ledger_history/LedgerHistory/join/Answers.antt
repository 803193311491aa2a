use Rattle.std.proofs.Common.{◌≡◌, ℕ, ◌+◌, List, ◌++◌, length, ap, arith, length-append}
use Rattle.ledger_core.specs.declared.entry.Entry.{Entry}
use Rattle.ledger_core.specs.Runs.{expand, run_ticks}
use Rattle.ledger_core.proofs.Ticks.{length_ticks}
use Rattle.ledger_core.proofs.ledger_history.LedgerHistory.join.Goals as goal

-- a run with the ticks of another and then some more
more_counted : (xs ts us all : List Entry) (count more : ℕ) → all ≡ ts ++ us → count ≡ length (xs ++ ts) → length us ≡ more → count + more ≡ length (xs ++ all)
more_counted xs ts us all count more e n l =
    let one : length (xs ++ ts) ≡ length xs + length ts = length-append xs ts in
    let two : length (ts ++ us) ≡ length ts + length us = length-append ts us in
    let sum : length (xs ++ all) ≡ length xs + length all = length-append xs all in
    let same : length all ≡ length (ts ++ us) = ap length e in
    omega arith

pub invariant_of-self : goal.invariant_of-self
invariant_of-self c =
    let h = c.self.inside in
    let r = c.args.run in
    record {
      items = c.self.invariant.items;
      run = c.in-Some.ensures.right;
      count =
          more_counted (expand h.items.items) (run_ticks h.open) (run_ticks r) (run_ticks c.in-Some.all) h.count r.count c.in-Some.ensures.ticks
          c.self.invariant.count (length_ticks r.above r.by r.count);
    }
