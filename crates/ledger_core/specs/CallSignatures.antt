-- Signatures of a call that are known to be valid.
use Rattle.std.specs.Prelude.{ℕ, zero, suc, Bool, true}
use Rattle.swap_digraph.specs.declared.deal.Deal.{Deal}
use Rattle.hashkey_path.specs.Hashkey.{is_valid}
use Rattle.hashkey_path.specs.LastSignatures.{is_last_signed}
use Rattle.swap_digraph.specs.Deal.{lock_hashlock}
use Rattle.ledger_core.specs.declared.entry.Call.{Call}
use Rattle.ledger_core.specs.declared.entry.Call.TheVariants.{Unlock}

-- the last n signatures of the hashkey that the call presents, if it does, are valid under the
-- deal; none need be where n is 0
abbrev pub is_known_call : ℕ → Deal → Call → Bool
is_known_call zero d c = true
is_known_call (suc n) d (Unlock key) = is_last_signed (suc n) d key
is_known_call (suc n) d _ = true

-- a call on arc a that presents a valid hashkey, or none
abbrev pub presents_valid : Deal → ℕ → Call → Bool
presents_valid d a (Unlock key) = is_valid d a (lock_hashlock d key.lock) key
presents_valid d a _ = true
