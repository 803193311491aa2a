use Rattle.std.proofs.Common.{◌≡◌, ◌≤◌, ◌+◌, length, take}
use Rattle.swap_digraph.specs.Deal.{party, counterparty}
use Rattle.tests_ledgers.proofs.tests.index.fill.Given as goal

abbrev pub invariant-loop-entry : goal.invariant-loop-entry
invariant-loop-entry g l =
    (l.index.entries ≡ take l.entry-index l.history) × (l.index.from ≡ party l.deal l.arc) × (l.index.to ≡ counterparty l.deal l.arc)
    × (length l.history ≤ l.index.spare + l.entry-index)
