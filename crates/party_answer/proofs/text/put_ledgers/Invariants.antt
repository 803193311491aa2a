use Rattle.std.proofs.Common.{◌≡◌, ◌++◌, drop}
use Rattle.party_answer.specs.Text.{bad_lines}
use Rattle.party_answer.proofs.text.put_ledgers.Given as goal

abbrev pub invariant-loop-ledger : goal.invariant-loop-ledger
invariant-loop-ledger l =
    (l.initial.out.items ++ bad_lines 0 l.ledgers ≡ l.out.items ++ bad_lines l.arc (drop l.ledger-index l.ledgers)) × (l.arc ≡ l.ledger-index)
