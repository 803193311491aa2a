use Rattle.std.proofs.Common.{◌≡◌, ℕ, ◌+◌, ◌-◌, ◌≤◌, List, ◌++◌, length, arith, length-append}
use Rattle.ledger_core.specs.declared.runs.Item.{Item}
use Rattle.ledger_core.specs.declared.runs.Run.{Run}
use Rattle.ledger_core.specs.Runs.{expand, run_ticks}
use Rattle.ledger_core.proofs.Ticks.{length_ticks}
use Rattle.ledger_core.proofs.ledger_history.LedgerHistory.append.Goals as goal

-- the ticks after the items are no more than the entries
ticks_within : (xs : List Item) (r : Run) (count : ℕ) → count ≡ length (expand xs ++ run_ticks r) → r.count ≤ count
ticks_within xs r count e =
    let long : length (run_ticks r) ≡ r.count = length_ticks r.above r.by r.count in
    let both : length (expand xs ++ run_ticks r) ≡ length (expand xs) + length (run_ticks r) = length-append (expand xs) (run_ticks r) in
    omega arith

pub join-requires-clause-few : goal.join-requires-clause-few
join-requires-clause-few c =
    let h = c.self.inside in
    let m = c.more.inside in
    let few = ticks_within m.items.items m.open m.count c.more.invariant.count in
    rw (← c.self.view_is) (omega (arith, c.if-count-self.false, c.self.ranges, c.self.invariant.count))
