-- When a hashkey is valid, and which of its signatures need no verifying.
use Rattle.std.proofs.Common.{◌≡◌, ℕ, ◌<◌, ◌==◌, true, not, ◌&&◌, List, [], ◌∷◌, length, get_or, Option, Some, None, refl}
use Rattle.std.proofs.Common.{sym, ap, subst, ◌∙◌, eq-eqb, inl, arith, suc, ◌-◌}
use Rattle.std.specs.List.{flat_map, list_any}
use Rattle.swap_base.specs.Lists.{IsElement}
use Rattle.swap_base.proofs.Lists.{any_at, and_both, first_at, in_from_moment, in_filter, in_range, and_parts}
use Rattle.swap_digraph.specs.Graph.{arcs, ends, entering, is_path, first_is, last_is, is_listed, leaving}
use Rattle.swap_digraph.specs.Deal.{counterparty, lock_leader, lock_hashlock}
use Rattle.swap_digraph.specs.declared.deal.Mode.{Mode}
use Rattle.swap_digraph.specs.declared.deal.Mode.TheVariants.{Timelocks, Hashkeys}
use Rattle.swap_digraph.specs.declared.deal.Deal.{Deal}
use Rattle.hashkey_path.specs.declared.hashkey.Hashkey.{Hashkey}
use Rattle.hashkey_path.specs.Hashkey.{same_key, is_wrong_secret, is_wrong_path, is_wrong_signature}
use Rattle.hashkey_path.specs.Hashkey.{is_valid}
use Rattle.hashkey_path.specs.LastSignatures.{is_last_signed, are_last_signed}
use Rattle.hashkey_path.proofs.Validity.{bytes_eq_self}
use Rattle.hashkey_path.proofs.LastSignatures.{valid_is_known}
use Rattle.hash_signature.specs.Signature.{hashed_value}
use Rattle.ledger_core.specs.declared.entry.Entry.{Entry}
use Rattle.ledger_core.specs.History.{Opening, opened, IsLegal, accepted, rows}
use Rattle.ledger_core.specs.Book.{Histories, history, IsLegalBook}
use Rattle.ledger_core.proofs.History.{opened_done, of_unlock, clear_at, AreClear}
use Rattle.hash_signature.specs.declared.sig.Sig.{Sig}
use Rattle.ledger_core.specs.declared.entry.Call.{Call}
use Rattle.ledger_core.specs.declared.entry.Call.TheVariants.{Unlock}
use Rattle.swap_rules.specs.Party.{pick_call, first_key, unlock_hashkey}
use Rattle.swap_rules.specs.Conduct.{is_first_key, extends_inner_key, extends_without_party, has_seen}
use Rattle.swap_rules.proofs.Words.{enters, key_parts, same_key-true, leaves}
use Rattle.conduct_check.specs.Standing.{key_opens_arc, is_valid_on_first_arc}
use Rattle.conduct_check.proofs.Legal.{legal_of}

-- A hashkey that opened a lock has valid signatures, whatever the terms.

-- what its rows say of an accepted unlock
accepted_signed : (n : ℕ) (d : Deal) (a : ℕ) (past : List Entry) (by : ℕ) (key : Hashkey) → AreClear (rows d a past by (Unlock key))
    → is_last_signed n d key ≡ true
accepted_signed n d a past by key k =
    let c = of_unlock d a past by key k in
    let s = hashed_value key.secret in
    let secret : not (is_wrong_secret s key) ≡ true = ap (λ b. not (not b)) (bytes_eq_self s) in
    valid_is_known n d a s key
    (and_both (not (is_wrong_secret s key) && not (is_wrong_path d a d.mode key)) (not (is_wrong_signature d d.mode key))
    (and_both (not (is_wrong_secret s key)) (not (is_wrong_path d a d.mode key)) secret (ap not c.path)) (ap not c.signature))

opened_signed : (n : ℕ) (d : Deal) (a : ℕ) (h : List Entry) (key : Hashkey) (o : Option Opening) → IsLegal d a h → opened h key.lock ≡ o
    → key_opens_arc key o ≡ true → is_last_signed n d key ≡ true
opened_signed n d a h key None l e k = absurd (cc k)
opened_signed n d a h key (Some o) l e k =
    let u = opened_done d a h key.lock o l e in
    subst (λ (z : Hashkey). is_last_signed n d z ≡ true) (same_key-true o.key key k) (accepted_signed n d a u.0.past u.0.act.by o.key u.0.clear)

pub known_opened : (n : ℕ) (d : Deal) (b : Histories) (v : ℕ) (key : Hashkey) → IsLegalBook d b
    → list_any (λ a. key_opens_arc key (opened (history b a) key.lock)) (entering d.graph v) ≡ true → is_last_signed n d key ≡ true
known_opened n d b v key l e =
    let f = any_at (λ a. key_opens_arc key (opened (history b a) key.lock)) (entering d.graph v) e in
    let i : IsElement f.now (entering d.graph v) = subst (IsElement f.now) (sym f.stands.1) (in_from_moment f.past f.now f.stands.0) in
    opened_signed n d f.now (history b f.now) key (opened (history b f.now) key.lock) (legal_of d b f.now l (enters d v f.now i).0) refl f.passes

-- A hashkey that extends an accepted one has valid signatures but for its first.

tail_known : (d : Deal) (lock : ℕ) (secret : List ℕ) (u : ℕ) (p : List ℕ) (s : Sig) (sigs : List Sig)
    → are_last_signed (length sigs) d lock secret p sigs ≡ true → are_last_signed (length sigs) d lock secret (u ∷ p) (s ∷ sigs) ≡ true
tail_known d lock secret u p s [] h = refl
tail_known d lock secret u p s (t ∷ ts) h =
    let whole : length (t ∷ ts) - suc (length ts) ≡ 0 = omega arith in
    let rest : length (s ∷ t ∷ ts) - suc (length ts) ≡ 1 = omega arith in
    rw rest (rw whole at h)

abbrev AllButFirst : Deal → Hashkey → List ℕ → List Sig → Type 0
AllButFirst d key path sigs = (0 < length sigs) × (are_last_signed (length sigs - 1) d key.lock key.secret path sigs ≡ true)

extended : (d : Deal) (v : ℕ) (key inner : Hashkey) (path : List ℕ) (sigs : List Sig) → extends_inner_key v inner path sigs key ≡ true
    → ((n : ℕ) → is_last_signed n d inner ≡ true) → AllButFirst d key path sigs
extended d v key inner [] sigs e h = absurd (cc e)
extended d v key inner (u ∷ p) [] e h = absurd (cc e)
extended d v key inner (u ∷ p) (s ∷ sigs) e h =
    let tail : Hashkey = record { lock = key.lock; secret = key.secret; path = p; sigs = sigs } in
    let same : inner ≡ tail = same_key-true inner tail (and_parts (u == v) (same_key inner tail) e).1 in
    let known : is_last_signed (length sigs) d tail ≡ true = subst (λ (z : Hashkey). is_last_signed (length sigs) d z ≡ true) same (h (length sigs)) in
    let less : length (s ∷ sigs) - 1 ≡ length sigs = omega arith in (
      omega arith,
      subst (λ (n : ℕ). are_last_signed n d key.lock key.secret (u ∷ p) (s ∷ sigs) ≡ true) (sym less)
          (tail_known d key.lock key.secret u p s sigs known),
    )

from_call : (d : Deal) (v : ℕ) (key : Hashkey) (o : Option Call) → extends_without_party v key o ≡ true
    → ((inner : Hashkey) → o ≡ Some (Unlock inner) → (n : ℕ) → is_last_signed n d inner ≡ true) → AllButFirst d key key.path key.sigs
from_call d v key (Some (Unlock inner)) e h =
    extended d v key inner key.path key.sigs (and_parts (not (is_listed v inner.path)) (extends_inner_key v inner key.path key.sigs key) e).1 (h inner refl)
from_call d v key _ e h = absurd (cc e)

pub known_seen : (d : Deal) (b : Histories) (v : ℕ) (key : Hashkey) → IsLegalBook d b → has_seen d b v (extends_without_party v key) ≡ true
    → AllButFirst d key key.path key.sigs
known_seen d b v key l e =
    let f = any_at (λ a. list_any (λ x. extends_without_party v key (accepted x)) (history b a)) (leaving d.graph v) e in
    let g = any_at (λ x. extends_without_party v key (accepted x)) (history b f.now) f.passes in
    let i : IsElement f.now (leaving d.graph v) = subst (IsElement f.now) (sym f.stands.1) (in_from_moment f.past f.now f.stands.0) in
    from_call d v key (accepted g.now) g.passes (λ inner k n. let c =
    clear_at d f.now (history b f.now) g.past g.now (Unlock inner) (legal_of d b f.now l (leaves d v f.now i).0) g.stands k in
    accepted_signed n d f.now g.past c.0.by inner c.1)

-- Validity is the same on all arcs to one party.

same_path : (m : Mode) (d : Deal) (a c : ℕ) (key : Hashkey) → counterparty d a ≡ counterparty d c → is_wrong_path d a m key ≡ is_wrong_path d c m key
same_path Timelocks d a c key e = refl
same_path Hashkeys d a c key e =
    ap (λ v. not (is_path d.graph key.path && first_is v key.path && last_is (lock_leader d key.lock) key.path && (length key.path == length key.sigs))) e

same_valid : (d : Deal) (a c : ℕ) (hashlock : List ℕ) (key : Hashkey) → counterparty d a ≡ counterparty d c
    → is_valid d a hashlock key ≡ is_valid d c hashlock key
same_valid d a c hashlock key e = ap (λ p. not (is_wrong_secret hashlock key) && not p && not (is_wrong_signature d d.mode key)) (same_path d.mode d a c key e)

pub valid_into : (d : Deal) (v a : ℕ) (key : Hashkey) → a < length d.graph.arcs → counterparty d a ≡ v
    → is_valid_on_first_arc d (entering d.graph v) (Some key) ≡ is_valid d a (lock_hashlock d key.lock) key
valid_into d v a key l e =
    go (entering d.graph v) refl (in_filter (λ a. (ends d.graph a).to == v) a (arcs d.graph) (in_range a (length d.graph.arcs) l)
    (eq-eqb (ends d.graph a).to v e))
  where
    go : (cs : List ℕ) → entering d.graph v ≡ cs → IsElement a cs → is_valid_on_first_arc d cs (Some key) ≡ is_valid d a (lock_hashlock d key.lock) key
    go [] q i = absurd i
    go (c ∷ cs) q i = same_valid d c a (lock_hashlock d key.lock) key ((enters d v c (subst (IsElement c) (sym q) (inl refl))).1 ∙ sym e)

-- First hashkeys.

pub first_is_key : (o : Option Hashkey) (key : Hashkey) → is_first_key o key ≡ true → o ≡ Some key
first_is_key None key e = absurd (cc e)
first_is_key (Some k) key e = ap (λ (z : Hashkey). Some z) (same_key-true k key e)

pub first_lock : (b : Histories) (v i : ℕ) (key : Hashkey) → first_key b v i ≡ Some key → key.lock ≡ i
unfolding first_key
first_lock b v i key e = let f = first_at (λ x. unlock_hashkey i (pick_call v x)) (flat_map (λ h. h) b) key e in (key_parts i (pick_call v f.now) key f.gives).1

-- the first of the arcs that enter v is an arc
pub first_entering : (d : Deal) (v : ℕ) (cs : List ℕ) → cs ≡ entering d.graph v → 0 < length cs → get_or cs 0 0 < length d.graph.arcs
first_entering d v [] e l = absurd (omega arith)
first_entering d v (c ∷ cs) e l = (enters d v c (subst (IsElement c) e (inl refl))).0
