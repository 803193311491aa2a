-- The hashkeys that a machine has signed, after its call.
use Rattle.std.proofs.Common.{◌≡◌, ℕ, ◌<◌, List, length, Option, None, sym, ◌∙◌, subst}
use Rattle.std.proofs.lemmas.List.{same_lists, get_or_default}
use Rattle.hashkey_path.specs.declared.hashkey.Hashkey.{Hashkey}
use Rattle.ledger_core.specs.declared.entry.Call.{Call}
use Rattle.swap_rules.specs.Machine.{noted}
use Rattle.swap_run.specs.Run.{signed_through_call}
use Rattle.swap_run.proofs.Noted.{signed_below, signed_length}
use Rattle.party_wallet.specs.Value.{signed_hashkey}

-- lists of one length that give the same hashkey for each lock are the same
same_for : (new old : List (Option Hashkey)) → length new ≡ length old → ((i : ℕ) → i < length new → signed_hashkey new i ≡ signed_hashkey old i) → new ≡ old
same_for new old l e = same_lists new old l (λ k d lt. get_or_default new k d None lt ∙ (e k lt ∙ get_or_default old k None d (subst (λ n. k < n) l lt)))

-- after a call
pub signed_by : (new old : List (Option Hashkey)) (c : Call) → length new ≡ length old → ((i : ℕ) → signed_hashkey new i ≡ noted (signed_hashkey old) c i)
    → new ≡ signed_through_call old c
signed_by new old c l e =
    same_for new (signed_through_call old c) (l ∙ sym (signed_length old c)) (λ i lt. e i ∙ sym (signed_below old c i (subst (λ n. i < n) l lt)))

-- after no call
pub signed_still : (new old : List (Option Hashkey)) → length new ≡ length old → ((i : ℕ) → signed_hashkey new i ≡ signed_hashkey old i) → new ≡ old
signed_still new old l e = same_for new old l (λ i lt. e i)
