use Rattle.std.proofs.Common.{length}
use Rattle.party_threads.proofs.Placing.{IsClosing}
use Rattle.party_threads.proofs.handing.close.Given as goal

abbrev pub invariant-ledgers : goal.invariant-ledgers
invariant-ledgers l = IsClosing l.deal l.fn.turns l.fn.shared.items l.shared.items l.ledgers l.turns

abbrev pub decreases-ledgers : goal.decreases-ledgers
decreases-ledgers l = length l.shared.items
