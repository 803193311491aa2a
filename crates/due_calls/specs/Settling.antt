-- What a due claim and a due refund stand for.
use Rattle.std.specs.Prelude.{ℕ}
use Rattle.ledger_core.specs.declared.entry.Call.TheVariants.{Claim, Refund}
use Rattle.swap_rules.specs.Due.{Action}

-- the claim on arc a
abbrev pub claim_action : ℕ → Action
claim_action a = record { arc = a; call = Claim }

-- the refund on arc a
abbrev pub refund_action : ℕ → Action
refund_action a = record { arc = a; call = Refund }
