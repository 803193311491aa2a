use Rattle.std.proofs.Common.{◌≡◌, replicate}
use Rattle.told_ledgers.specs.Ledger.{untold}
use Rattle.told_ledgers.proofs.reader.none_told.Given as goal

abbrev pub invariant-arcs : goal.invariant-arcs
invariant-arcs l = l.ledgers.items ≡ replicate l._arc untold
