-- Signatures of a call that are known to be valid.
use Rattle.std.proofs.Common.{◌≡◌, ℕ, zero, suc, true, refl}
use Rattle.swap_digraph.specs.declared.deal.Deal.{Deal}
use Rattle.swap_digraph.specs.Deal.{lock_hashlock}
use Rattle.hashkey_path.proofs.LastSignatures.{valid_is_known}
use Rattle.ledger_core.specs.declared.entry.Call.{Call}
use Rattle.ledger_core.specs.declared.entry.Call.TheVariants.{Publish, Unlock, Claim, Refund, Transfer}
use Rattle.ledger_core.specs.CallSignatures.{is_known_call, presents_valid}

-- of a call that presents a valid hashkey as many signatures are known as one likes
pub valid_is_known_in : (n : ℕ) (d : Deal) (a : ℕ) (c : Call) → presents_valid d a c ≡ true → is_known_call n d c ≡ true
valid_is_known_in zero d a c e = refl
valid_is_known_in (suc n) d a (Unlock key) e = valid_is_known (suc n) d a (lock_hashlock d key.lock) key e
valid_is_known_in (suc n) d a (Publish t) e = refl
valid_is_known_in (suc n) d a Claim e = refl
valid_is_known_in (suc n) d a Refund e = refl
valid_is_known_in (suc n) d a (Transfer to units) e = refl
