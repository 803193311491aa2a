use Rattle.std.proofs.Common.{◌≡◌, [], drop}
use Rattle.party_wallet.specs.Value.{signed_hashkey}
use Rattle.party_answer.specs.Unkept.{with_ledgers}
use Rattle.party_answer.proofs.unkept.all_unkept.Given as goal

abbrev pub invariant-loop-ledger : goal.invariant-loop-ledger
invariant-loop-ledger l =
    (with_ledgers (signed_hashkey l.kept.keys) 0 [] l.ledgers ≡ with_ledgers (signed_hashkey l.kept.keys) l.arc l.list.items (drop l.ledger-index l.ledgers))
    × (l.arc ≡ l.ledger-index)
