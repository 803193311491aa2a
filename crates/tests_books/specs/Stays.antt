-- What stays of a pass whatever it calls.
use Rattle.std.specs.Prelude.{◌≡◌}
use Rattle.ledger_shared.specs.Value.{PassState}

-- the ledger, the deal, the arc and the party
abbrev pub Stays : PassState → PassState → Type 0
Stays p q = (q.lock ≡ p.lock) × (q.deal ≡ p.deal) × (q.arc ≡ p.arc) × (q.party ≡ p.party)
