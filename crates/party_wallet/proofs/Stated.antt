-- A wallet that has what a deal states of a party has the seed that the deal states.
use Rattle.std.proofs.Common.{◌≡◌, ℕ, ◌<◌, Bool, true, false, not, ◌&&◌, cond, List, [], ◌∷◌, length, nat_eq, nat_lt, Option, Some, None, is_some, replicate, refl, subst, ap, ap₂, ◌∙◌, inl, inr, eqb-true, eq-eqb}
use Rattle.std.specs.Prelude.{bytes_eq, if◌then◌else◌}
use Rattle.std.specs.List.{find}
use Rattle.std.proofs.lemmas.Bool.{and_parts, lt-ltb}
use Rattle.std.proofs.lemmas.List.{length-replicate, get_or-replicate}
use Rattle.swap_base.specs.Lists.{IsElement}
use Rattle.swap_base.proofs.Lists.{and_both, from_range}
use Rattle.swap_digraph.specs.declared.deal.Deal.{Deal}
use Rattle.swap_digraph.specs.declared.deal.Mode.{Mode}
use Rattle.swap_digraph.specs.declared.deal.Mode.TheVariants.{Timelocks, Hashkeys}
use Rattle.swap_digraph.specs.Deal.{locks}
use Rattle.hash_signature.specs.Signature.{derive_public_key}
use Rattle.hashkey_path.specs.declared.hashkey.Hashkey.{Hashkey}
use Rattle.hashkey_path.specs.Hashkey.{party_public_key}
use Rattle.party_wallet.specs.Value.{WalletState, signed_hashkey}
use Rattle.party_wallet.specs.Keys.{party_public, new_wallet}
use Rattle.party_wallet.specs.Fits.{has_key, opens_own, fits_lock, wrong_lock, has_ready, find_public_key, is_stated, fits_deal, find_wrong_lock}
use Rattle.party_wallet.proofs.Least.{by_test}

-- where what passes the second test passes the first, and none passes that, none passes the second
none_of : (p q : ℕ → Bool) (xs : List ℕ) → ((i : ℕ) → p i ≡ false → q i ≡ false) → find p xs ≡ None → find q xs ≡ None
none_of p q [] only e = refl
none_of p q (x ∷ xs) only e =
    let t = by_test (p x) x (find p xs) e in
    ap (λ b. cond b (Some x) (find q xs)) (only x t.0) ∙ none_of p q xs only t.1

of_party : (w : WalletState) (v i : ℕ) → has_ready w v i ≡ true → w.party ≡ v
of_party w v i is =
    let two = and_parts (nat_eq w.party v && nat_lt i (length w.signed)) (not (is_some (signed_hashkey w.signed i))) is in
    eqb-true w.party v (and_parts (nat_eq w.party v) (nat_lt i (length w.signed)) two.0).0

its_key : (m : Mode) (d : Deal) (seed : List ℕ) (p v i : ℕ) (opens : Bool) → p ≡ v
    → not (is_stated Hashkeys d v i (party_public m seed p i) && opens) ≡ false → not (has_key Hashkeys d v seed i && opens) ≡ false
its_key Timelocks d seed p v i opens same e = absurd (cc e)
its_key Hashkeys d seed p v i opens same e = subst (λ (x : ℕ). not (bytes_eq (derive_public_key seed x i) (party_public_key d v i) && opens) ≡ false) same e

by_ready : (d : Deal) (v i : ℕ) (w : WalletState) (opens b : Bool) → has_ready w v i ≡ b
    → not (is_stated Hashkeys d v i (if b then party_public w.mode w.seed w.party i else None) && opens) ≡ false
    → not (has_key Hashkeys d v w.seed i && opens) ≡ false
by_ready d v i w opens false ready e = absurd (cc e)
by_ready d v i w opens true ready e = its_key w.mode d w.seed w.party v i opens (of_party w v i ready) e

by_mode : (m : Mode) (d : Deal) (v i : ℕ) (w : WalletState) (opens : Bool) → not (is_stated m d v i (find_public_key w v i) && opens) ≡ false
    → not (has_key m d v w.seed i && opens) ≡ false
by_mode Timelocks d v i w opens e = e
by_mode Hashkeys d v i w opens e = by_ready d v i w opens (has_ready w v i) refl e

pub none_wrong : (d : Deal) (v : ℕ) (w : WalletState) → find_wrong_lock d v w ≡ None → wrong_lock d v w.seed ≡ None
none_wrong d v w none =
    none_of (λ i. not (fits_deal d v w i)) (λ i. not (fits_lock d v w.seed i)) (locks d)
    (λ i e. by_mode d.mode d v i w (opens_own d v w.seed i) e) none

-- A new wallet has the keys of its party.

find_same : (p q : ℕ → Bool) (xs : List ℕ) → ((i : ℕ) → IsElement i xs → p i ≡ q i) → find p xs ≡ find q xs
find_same p q [] same = refl
find_same p q (x ∷ xs) same = ap₂ (λ b o. cond b (Some x) o) (same x (inl refl)) (find_same p q xs (λ i among. same i (inr among)))

stated_key : (m : Mode) (d : Deal) (v : ℕ) (seed : List ℕ) (i : ℕ) → is_stated m d v i (party_public m seed v i) ≡ has_key m d v seed i
stated_key Timelocks d v seed i = refl
stated_key Hashkeys d v seed i = refl

pub new_fits : (d : Deal) (w : WalletState) → w ≡ new_wallet w.seed w.party d → find_wrong_lock d w.party w ≡ wrong_lock d w.party w.seed
new_fits d w new =
    ap (λ (u : WalletState). find_wrong_lock d w.party u) new
    ∙ find_same (λ i. not (fits_deal d w.party (new_wallet w.seed w.party d) i)) (λ i. not (fits_lock d w.party w.seed i)) (locks d) (λ i among.
    ap (λ b. not (b && opens_own d w.party w.seed i)) (ap (is_stated d.mode d w.party i) (its_public i (from_range i (length d.leaders) among))
    ∙ stated_key d.mode d w.party w.seed i))
  where
    its_public : (i : ℕ) → i < length d.leaders → find_public_key (new_wallet w.seed w.party d) w.party i ≡ party_public d.mode w.seed w.party i
    its_public i lt =
        ap (λ b. if b then party_public d.mode w.seed w.party i else None)
        (and_both (nat_eq w.party w.party && nat_lt i (length (replicate {A = Option Hashkey} (length d.leaders) None)))
        (not (is_some (signed_hashkey (replicate (length d.leaders) None) i)))
        (and_both (nat_eq w.party w.party) (nat_lt i (length (replicate {A = Option Hashkey} (length d.leaders) None))) (eq-eqb w.party w.party refl)
        (lt-ltb i (length (replicate {A = Option Hashkey} (length d.leaders) None)) (rw (length-replicate {A = Option Hashkey} (length d.leaders) None) lt)))
        (ap (λ (o : Option Hashkey). not (is_some o)) (get_or-replicate (length d.leaders) i None None lt)))
