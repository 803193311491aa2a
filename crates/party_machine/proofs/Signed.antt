-- A wallet after a hashkey was signed: the rest of it is as before.
use Rattle.std.proofs.Common.{◌≡◌, ◌≢◌, ◌⊎◌, ℕ, zero, suc, ◌<◌, ◌==◌, Bool, true, false, cond, List, [], ◌∷◌, length, set, Option, Some, None, refl}
use Rattle.std.proofs.Common.{sym, ap, ◌∙◌, inl, inr, eqb-true, eq-eqb}
use Rattle.std.proofs.lemmas.List.{length-set, get_or-set_same, get_or-set_other}
use Rattle.std.proofs.lemmas.Bool.{false≢true}
use Rattle.std.proofs.lemmas.Option.{same_Some}
use Rattle.swap_base.specs.Lists.{or_else}
use Rattle.swap_digraph.specs.declared.deal.Deal.{Deal}
use Rattle.hashkey_path.specs.declared.hashkey.Hashkey.{Hashkey}
use Rattle.ledger_core.specs.declared.entry.Call.TheVariants.{Unlock}
use Rattle.history_index.specs.Value.{IndexState}
use Rattle.swap_rules.specs.Machine.{noted}
use Rattle.swap_rules.proofs.Prefixes.{same_or_not}
use Rattle.party_wallet.specs.Value.{signed_hashkey}
use Rattle.party_wallet.specs.Value.{WalletState}
use Rattle.party_wallet.specs.Keys.{with_signed}
use Rattle.party_machine.specs.Within.{IsReadyWallet}

same_place : (s : List (Option Hashkey)) (i : ℕ) (k : Hashkey) → i < length s → signed_hashkey (set s i (Some k)) i ≡ Some k
same_place s i k lt = get_or-set_same s i (Some k) None lt

other_place : (s : List (Option Hashkey)) (i j : ℕ) (k : Hashkey) → j ≢ i → signed_hashkey (set s i (Some k)) j ≡ signed_hashkey s j
other_place s i j k n = get_or-set_other s i j (Some k) None n

-- what was signed already is set again
pub set_again : (s : List (Option Hashkey)) (i : ℕ) (k : Hashkey) → signed_hashkey s i ≡ Some k → set s i (Some k) ≡ s
set_again [] i k e = refl
set_again (x ∷ s) zero k e = ap (λ y. y ∷ s) (sym e)
set_again (x ∷ s) (suc i) k e = ap (λ ys. x ∷ ys) (set_again s i k e)

-- the hashkeys that were signed are noted
by_place : (s : List (Option Hashkey)) (i j : ℕ) (k : Hashkey) (b : Bool) → i < length s → (j == i) ≡ b
    → signed_hashkey (set s i (Some k)) j ≡ cond b (Some k) (signed_hashkey s j)
by_place s i j k true lt e = ap (signed_hashkey (set s i (Some k))) (eqb-true j i e) ∙ same_place s i k lt
by_place s i j k false lt e = other_place s i j k (λ same. absurd (false≢true (sym e ∙ eq-eqb j i same)))

pub is_noted : (s : List (Option Hashkey)) (i : ℕ) (k : Hashkey) → i < length s → k.lock ≡ i → signed_hashkey (set s i (Some k)) ≡ noted (signed_hashkey s) (Unlock k)
is_noted s i k lt e = λ r j. (by_place s i j k (j == i) lt refl ∙ ap (λ (n : ℕ). cond (j == n) (Some k) (signed_hashkey s j)) (sym e)) r

-- what was signed before stays
pub stays : (s : List (Option Hashkey)) (i : ℕ) (k : Hashkey) (o : Option Hashkey) → i < length s → or_else (signed_hashkey s i) o ≡ Some k
    → (j : ℕ) (l : Hashkey) → signed_hashkey s j ≡ Some l → signed_hashkey (set s i (Some k)) j ≡ Some l
stays s i k o lt e j l h = go (same_or_not j i)
  where
    go : (j ≡ i) ⊎ (j ≢ i) → signed_hashkey (set s i (Some k)) j ≡ Some l
    go (inl q) =
        let here : signed_hashkey s i ≡ Some l = ap (signed_hashkey s) (sym q) ∙ h in
        let same : Some l ≡ Some k = sym (ap (λ z. or_else z o) here) ∙ e in
        ap (signed_hashkey (set s i (Some k))) q ∙ (same_place s i k lt ∙ sym same)
    go (inr n) = other_place s i j k n ∙ h

pub signed_ready : (d : Deal) (w : WalletState) (known : List IndexState) (i : ℕ) (k : Hashkey) → IsReadyWallet d w known → i < length d.leaders → k.lock ≡ i
    → IsReadyWallet d (with_signed w i k) known
signed_ready d w known i k r lt e = record {
  sized = r.sized;
  partys = record {
    party = r.partys.party;
    mode = r.partys.mode;
    places = length-set w.signed i (Some k) ∙ r.partys.places;
    fits = r.partys.fits;
    locks = λ j l h. at j l h (same_or_not j i);
  };
  indexes = r.indexes;
  arcs = r.arcs;
  legal = r.legal;
}
  where
    within : i < length w.signed
    within = rw r.partys.places lt

    at : (j : ℕ) (l : Hashkey) → signed_hashkey (set w.signed i (Some k)) j ≡ Some l → (j ≡ i) ⊎ (j ≢ i) → l.lock ≡ j
    at j l h (inl q) =
        let same : k ≡ l = same_Some k l (sym (ap (signed_hashkey (set w.signed i (Some k))) q ∙ same_place w.signed i k within) ∙ h) in
        ap (λ (x : Hashkey). x.lock) (sym same) ∙ (e ∙ sym q)
    at j l h (inr n) = r.partys.locks j l (sym (other_place w.signed i j k n) ∙ h)
