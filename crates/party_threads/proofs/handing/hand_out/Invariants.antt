use Rattle.party_threads.proofs.Placing.{IsDealing}
use Rattle.party_threads.proofs.handing.hand_out.Given as goal

abbrev pub invariant-arcs : goal.invariant-arcs
invariant-arcs g l = IsDealing l.deal l.fn.ledgers l.fn.turns l.arc l.ledgers l.turns l.shared.items
