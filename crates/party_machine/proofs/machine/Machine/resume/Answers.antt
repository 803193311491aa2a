use Rattle.std.proofs.Common.{◌≡◌, ◌<◌, ◌∙◌, ℕ, List, length, Option, Some, sym, subst}
use Rattle.hashkey_path.specs.declared.hashkey.Hashkey.{Hashkey}
use Rattle.party_wallet.specs.Value.{signed_hashkey}
use Rattle.party_machine.proofs.machine.Machine.resume.Goals as goal

pub restored-requires-clause-locks : goal.restored-requires-clause-locks
restored-requires-clause-locks g c =
    subst (λ (l : List (Option Hashkey)). (i : ℕ) (k : Hashkey) → i < length l → signed_hashkey l i ≡ Some k → k.lock ≡ i)
    (sym (c.as_slice.ensures ∙ c.keys.ensures.value)) (c.keys.ensures.locks c.requires.sound)
