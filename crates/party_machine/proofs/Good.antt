-- What a seed signs is valid on every arc that enters its party, where the seed has what the deal
-- states.
use Rattle.std.proofs.Common.{◌≡◌, ℕ, ◌<◌, ◌==◌, Bool, true, false, not, ◌||◌, List, [], ◌∷◌, length, None, refl, sym, ap, ◌∙◌, subst, eq-eqb, get_or}
use Rattle.std.specs.Prelude.{IsTrue}
use Rattle.std.specs.Str.{bytes_eq}
use Rattle.std.proofs.lemmas.Bool.{not-false}
use Rattle.swap_base.specs.Lists.{IsElement}
use Rattle.swap_base.proofs.Lists.{and_both, and_parts, in_range}
use Rattle.swap_digraph.specs.Graph.{entering, leaving, has_arc, is_listed}
use Rattle.swap_digraph.specs.declared.deal.Deal.{Deal}
use Rattle.swap_digraph.specs.declared.deal.Mode.{Mode}
use Rattle.swap_digraph.specs.declared.deal.Mode.TheVariants.{Timelocks, Hashkeys}
use Rattle.swap_digraph.specs.Deal.{leads, locks, lock_hashlock}
use Rattle.hash_signature.specs.Signature.{hashed_value, derive_secret, derive_public_key, is_valid_signature}
use Rattle.hashkey_path.specs.declared.hashkey.Hashkey.{Hashkey}
use Rattle.hashkey_path.specs.declared.hashkey.HashkeyAnswer.{HashkeyAnswer}
use Rattle.hashkey_path.specs.declared.hashkey.HashkeyAnswer.TheVariants.{Valid, WrongSecret, WrongPath}
use Rattle.hashkey_path.specs.Hashkey.{party_public_key, signing_message, is_valid, hashkey_answer, HasPath, IsValidHashkey}
use Rattle.hashkey_path.specs.Signed.{suffix_signature, leaders_key, extended_key, IsLeadersOwn, CanExtend, IsValidEntering}
use Rattle.hashkey_path.proofs.Validity.{valid_from, to_valid}
use Rattle.hashkey_path.proofs.Signed.{first_is_valid, extended_is_valid, leads_on}
use Rattle.hashkey_path.proofs.Answered.{says_valid, valid_answer}
use Rattle.swap_rules.specs.Machine.{IsGoodKey, IsOwnKey, IsDerivedHashkey}
use Rattle.swap_rules.proofs.Words.{bytes_eq-true, bytes_eq-refl, same_key-refl, enters, leaves}
use Rattle.party_wallet.specs.Keys.{bare_key, own_key, onto_key}
use Rattle.party_wallet.specs.Fits.{has_key, opens_own, fits_lock, wrong_lock}
use Rattle.party_machine.specs.Law.{FittingIsGood}
use Rattle.party_machine.proofs.Digests.{digest_signed}
use Rattle.party_wallet.proofs.Least.{none_in}

-- Validity, as a test and as a fact.

is_says : (o : HashkeyAnswer) → says_valid o ≡ true → o ≡ Valid
is_says Valid e = refl
is_says WrongSecret e = absurd (cc e)
is_says WrongPath e = absurd (cc e)
is_says _ e = absurd (cc e)

test_of_valid : (d : Deal) (a : ℕ) (hashlock : List ℕ) (key : Hashkey) → IsValidHashkey d a hashlock key → is_valid d a hashlock key ≡ true
test_of_valid d a hashlock key v = valid_answer d a hashlock key ∙ ap says_valid (to_valid d a hashlock key v)

pub valid_of_test : (d : Deal) (a : ℕ) (hashlock : List ℕ) (key : Hashkey) → is_valid d a hashlock key ≡ true → IsValidHashkey d a hashlock key
valid_of_test d a hashlock key e = valid_from d a hashlock key (is_says (hashkey_answer d a hashlock key) (sym (valid_answer d a hashlock key) ∙ e))

-- What the wallet test says.

fits_each : (d : Deal) (v : ℕ) (seed : List ℕ) (i : ℕ) → wrong_lock d v seed ≡ None → i < length d.leaders → fits_lock d v seed i ≡ true
fits_each d v seed i e lt = not-false (fits_lock d v seed i) (none_in (λ j. not (fits_lock d v seed j)) (locks d) i e (in_range i (length d.leaders) lt))

or_given : (b c : Bool) → (not b || c) ≡ true → b ≡ true → c ≡ true
or_given true c e h = e
or_given false c e h = absurd (cc h)

opens_of : (d : Deal) (v : ℕ) (seed : List ℕ) (i : ℕ) → fits_lock d v seed i ≡ true → leads d v i ≡ true → hashed_value (derive_secret seed) ≡ lock_hashlock d i
opens_of d v seed i e l =
    bytes_eq-true (hashed_value (derive_secret seed)) (lock_hashlock d i)
    (or_given (leads d v i) (bytes_eq (hashed_value (derive_secret seed)) (lock_hashlock d i)) (and_parts (has_key d.mode d v seed i)
    (opens_own d v seed i) e).1
    l)

key_for : (m : Mode) (d : Deal) (v : ℕ) (seed : List ℕ) (i : ℕ) → m ≡ Hashkeys → has_key m d v seed i ≡ true → party_public_key d v i ≡ derive_public_key seed v i
key_for Hashkeys d v seed i e h = sym (bytes_eq-true (derive_public_key seed v i) (party_public_key d v i) h)
key_for Timelocks d v seed i e h = absurd (cc e)

key_is : (d : Deal) (v : ℕ) (seed : List ℕ) (i : ℕ) → d.mode ≡ Hashkeys → fits_lock d v seed i ≡ true → party_public_key d v i ≡ derive_public_key seed v i
key_is d v seed i m e = key_for d.mode d v seed i m (and_parts (has_key d.mode d v seed i) (opens_own d v seed i) e).0

signature_is : (d : Deal) (lock : ℕ) (secret : List ℕ) (v : ℕ) (seed rest : List ℕ) (inner : _)
    → IsTrue (is_valid_signature (derive_public_key seed v lock) (signing_message d.id lock (v ∷ rest) secret inner)
    (suffix_signature d lock secret v seed rest inner))
unfolding signing_message
signature_is d lock secret v seed rest inner = digest_signed seed v lock _

-- A hashkey of no path is valid with timelocks.

bare_path : (m : Mode) (d : Deal) (a i : ℕ) (secret : List ℕ) → m ≡ Timelocks → HasPath m d a (bare_key i secret)
bare_path Timelocks d a i secret e = (refl, refl)
bare_path Hashkeys d a i secret e = absurd (cc e)

bare_valid : (d : Deal) (a i : ℕ) (hashlock secret : List ℕ) → d.mode ≡ Timelocks → hashed_value secret ≡ hashlock
    → is_valid d a hashlock (bare_key i secret) ≡ true
bare_valid d a i hashlock secret m e = test_of_valid d a hashlock (bare_key i secret) (record { secret = e; path = bare_path d.mode d a i secret m })

-- valid on every arc that enters v
into : (d : Deal) (v : ℕ) (hashlock : List ℕ) (key : Hashkey) → IsValidEntering d v hashlock key → (a : ℕ) → IsElement a (entering d.graph v)
    → is_valid d a hashlock key ≡ true
into d v hashlock key valid a i = let e = enters d v a i in test_of_valid d a hashlock key (valid a e.0 e.1)

own_good : (m : Mode) (d : Deal) (v : ℕ) (seed : List ℕ) (i : ℕ) → d.mode ≡ m → v < d.graph.n → fits_lock d v seed i ≡ true → leads d v i ≡ true
    → IsGoodKey d v i (own_key m d v seed i) × IsOwnKey m v (own_key m d v seed i)
own_good Timelocks d v seed i m lt fits l =
    (record { lock = refl; valid = λ a w. bare_valid d a i (lock_hashlock d i) (derive_secret seed) m (opens_of d v seed i fits l) }, tt)
own_good Hashkeys d v seed i m lt fits l =
    let own : IsLeadersOwn d i (derive_secret seed) v seed = record {
      mode = m;
      leads = l;
      opens = opens_of d v seed i fits l;
      key = key_is d v seed i m fits;
    } in (
      record {
        lock = refl;
        valid =
            into d v (lock_hashlock d i) (leaders_key d i (derive_secret seed) v seed)
            (first_is_valid d i (derive_secret seed) v seed lt own (signature_is d i (derive_secret seed) v seed [] []));
      },
      and_both (v == v) true (eq-eqb v v refl) refl,
    )

onto_good : (m : Mode) (d : Deal) (v : ℕ) (seed : List ℕ) (c : ℕ) (inner : Hashkey) → d.mode ≡ m → v < d.graph.n → fits_lock d v seed inner.lock ≡ true
    → IsElement c (leaving d.graph v) → is_valid d c (lock_hashlock d inner.lock) inner ≡ true → is_listed v inner.path ≡ false
    → IsGoodKey d v inner.lock (onto_key m d v seed inner) × IsDerivedHashkey m v inner (onto_key m d v seed inner)
onto_good Timelocks d v seed c inner m lt fits w valid apart =
    let right = valid_of_test d c (lock_hashlock d inner.lock) inner valid in
    (record { lock = refl; valid = λ a z. bare_valid d a inner.lock (lock_hashlock d inner.lock) inner.secret m right.secret }, bytes_eq-refl inner.secret)
onto_good Hashkeys d v seed c inner m lt fits w valid apart =
    let right = valid_of_test d c (lock_hashlock d inner.lock) inner valid in
    let l = leaves d v c w in
    let arc = subst (λ u. has_arc d.graph u (get_or inner.path 0 0) ≡ true) l.1 (leads_on d c (lock_hashlock d inner.lock) inner l.0 m right) in
    let can : CanExtend d inner v seed = record { mode = m; apart = ap not apart; arc = arc; key = key_is d v seed inner.lock m fits } in (
      record {
        lock = refl;
        valid =
            into d v (lock_hashlock d inner.lock) (extended_key d inner v seed)
            (extended_is_valid d inner v seed c (lock_hashlock d inner.lock) lt right can
            (signature_is d inner.lock inner.secret v seed inner.path inner.sigs));
      },
      and_both (not (is_listed v inner.path)) _ (ap not apart) (and_both (v == v) _ (eq-eqb v v refl) (same_key-refl inner)),
    )

pub fitting_is_good : FittingIsGood
fitting_is_good d v seed accepted lt none = record {
  first = λ i below l. own_good d.mode d v seed i refl lt (fits_each d v seed i none below) l;
  onto = λ c inner w below valid apart. onto_good d.mode d v seed c inner refl lt (fits_each d v seed inner.lock none below) w valid apart;
}
