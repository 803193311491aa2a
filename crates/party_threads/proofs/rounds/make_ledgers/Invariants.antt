use Rattle.std.proofs.Common.{◌≡◌, map, Some}
use Rattle.std.specs.List.{range_with_len}
use Rattle.ledger_core.specs.Value.{LedgerState}
use Rattle.swap_world.specs.Inside.{new_ledger}
use Rattle.party_threads.proofs.rounds.make_ledgers.Given as goal

abbrev pub invariant-arcs : goal.invariant-arcs
invariant-arcs l = l.ledgers.items ≡ map (λ (x : LedgerState). Some x) (map (new_ledger l.deal) (range_with_len 0 l.arc))
