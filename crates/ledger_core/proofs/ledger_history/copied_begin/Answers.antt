use Rattle.std.proofs.Common.{◌≤◌, ◌++◌, ap, ◌∙◌, drop, length, arith}
use Rattle.ledger_core.specs.Runs.{expand, ledger_entries}
use Rattle.ledger_core.proofs.Ticks.{next_some, last_from}
use Rattle.ledger_core.proofs.ledger_history.copied_begin.Goals as goal

pub returns-then-missing-size-clause-list : goal.returns-then-missing-size-clause-list
returns-then-missing-size-clause-list c =
    let xs = c.args.items.now in
    let l = c.loop-missing in
    let some = next_some xs l.next l.missing c.args.n l.invariant.some l.invariant.rest c.requires.within in
    let within : l.missing ≤ length (ledger_entries c.index-items-next.result) = omega (arith, c.all_entries-size.ensures, c.if-missing-size.true) in
    ap (λ z. z ++ expand (drop l.next xs)) c.in_ok-first.ensures.entries
    ∙ last_from xs l.next l.missing c.args.n c.index-items-next.result some l.invariant.within c.index-items-next.is within l.invariant.rest
