-- What opens a lock, and when: openings with their heights, and the expiry of a refund.
use Rattle.std.proofs.Common.{append_assoc, ◌≡◌, ◌⊎◌, ℕ, ◌+◌, ◌<◌, ◌≤◌, nat_lt, Bool, true, false, not, ◌&&◌, List, [], ◌∷◌, ◌++◌, Some, is_some, refl}
use Rattle.std.proofs.Common.{sym, ap, ◌∙◌, subst, inl, inr, arith, ltb-true, lt-ltb, min}
use Rattle.std.proofs.lemmas.Bool.{false≢true}
use Rattle.std.proofs.lemmas.List.Sums.{sum_by_push}
use Rattle.std.specs.Prelude.{map}
use Rattle.swap_base.specs.Lists.{IsElement, IsMoment}
use Rattle.swap_base.proofs.Lists.{Order, moments_in_order, any_at, list_any-in, in_filter, from_filter, some_fails_all, and_parts, and_both}
use Rattle.swap_base.proofs.Lists.{in_from_moment, all_moments_front, first_given_answer-front, Earlier, Same, Later, in_map}
use Rattle.swap_digraph.specs.declared.deal.Deal.{Deal}
use Rattle.swap_digraph.specs.Deal.{counterparty, locks}
use Rattle.hashkey_path.specs.declared.hashkey.Hashkey.{Hashkey}
use Rattle.hashkey_path.specs.Hashkey.{is_valid}
use Rattle.escrow_core.specs.declared.terms.Terms.{Terms}
use Rattle.escrow_core.specs.Terms.{stated_terms, lock_expiry, last_unlock, terms_hashlock, least, closed_locks, refund_expiry}
use Rattle.escrow_core.specs.Table.{are_open}
use Rattle.ledger_core.specs.declared.entry.Call.TheVariants.{Unlock, Claim}
use Rattle.ledger_core.specs.declared.entry.Entry.{Entry}
use Rattle.ledger_core.specs.History.{entry_ticks, height, accepted, Publication, published, Opening, opening, opened, settled, is_open, triggered}
use Rattle.ledger_core.specs.History.{IsLegal, IsLegalMoment}
use Rattle.ledger_core.specs.declared.facts.Settlement.TheVariants.{Refunded}
use Rattle.swap_rules.specs.Party.{expiry, has_expired, least_expiry}
use Rattle.swap_rules.specs.Laws.{IsClaimedInTime}
use Rattle.swap_rules.proofs.Effects.{unlock_opens, claim_claims}
use Rattle.ledger_core.proofs.History.{not-true-of, Act, Done, opened_done, claimed_done, of_unlock, height-past, opened-now, is_some-of}

-- A lock that is open at a height of at most t.
pub record IsOpenBy (h : List Entry) (i t : ℕ) : Type 0 where
  pub opening : Opening
  pub opened : opened h i ≡ Some opening
  pub early : opening.height ≤ t

pub open_by_more : (h : List Entry) (i s t : ℕ) → s ≤ t → IsOpenBy h i s → IsOpenBy h i t
open_by_more h i s t l o = let e = o.early in record { opening = o.opening; opened = o.opened; early = omega arith }

pub is_open_by : (h : List Entry) (i t : ℕ) → IsOpenBy h i t → is_open h i ≡ true
is_open_by h i t o = ap is_some o.opened

-- An unlock in time with a valid hashkey leaves its lock open by then.
pub unlock_opens_by : (d : Deal) (a : ℕ) (h past : List Entry) (e : Entry) (key : Hashkey) (p : Publication) → IsLegal d a h → (m : IsMoment h past e)
    → (act : Act d a past e (Unlock key))
    → act.by ≡ counterparty d a → published past ≡ Some p → is_valid d a (terms_hashlock p.terms key.lock) key ≡ true
    → height past ≤ last_unlock d.mode p.terms key → (settled past ≡ Some Refunded → ⊥) → IsOpenBy h key.lock (height past)
unlock_opens_by d a h past e key p l m act by pub_past valid in_time unrefunded =
    let whole : h ≡ (past ++ e ∷ []) ++ m.0 = m.1 ∙ sym append_assoc_at in
    let l1 : IsLegal d a (past ++ e ∷ []) = all_moments_front (IsLegalMoment d a) (past ++ e ∷ []) m.0 (subst (IsLegal d a) whole l) in
    let o =
    is_some-of (opened (past ++ e ∷ []) key.lock) (unlock_opens d a (past ++ e ∷ []) past e key p l1 ([], refl) act by pub_past valid in_time
    unrefunded) in
    let u = opened_done d a (past ++ e ∷ []) key.lock o.0 l1 o.1 in
    let low = height-past (past ++ e ∷ []) u.0.past u.0.now u.0.stands in
    let same : height (past ++ e ∷ []) ≡ height past + entry_ticks e.what = sum_by_push (λ x. entry_ticks x.what) past e in
    let none : entry_ticks e.what ≡ 0 = ap entry_ticks act.what in
    let at = u.0.at in
    record {
      opening = o.0;
      opened = ap (λ x. opened x key.lock) whole
          ∙ first_given_answer-front (λ x. opening key.lock x.height (accepted x)) (past ++ e ∷ []) m.0 o.0 o.1;
      early = omega arith;
    }
  where
    append_assoc_at : (past ++ e ∷ []) ++ m.0 ≡ past ++ e ∷ m.0
    append_assoc_at = rw append_assoc refl

-- A claim behind open locks leaves the arc claimed by then.
pub claim_claims_by : (d : Deal) (a : ℕ) (h past : List Entry) (e : Entry) (p : Publication) → IsLegal d a h → (m : IsMoment h past e)
    → (act : Act d a past e Claim)
    → act.by ≡ counterparty d a → published past ≡ Some p → triggered d past ≡ true → IsClaimedInTime h (height past)
claim_claims_by d a h past e p l m act by pub_past all_open =
    let whole : h ≡ (past ++ e ∷ []) ++ m.0 = m.1 ∙ sym append_assoc_at in
    let l1 : IsLegal d a (past ++ e ∷ []) = all_moments_front (IsLegalMoment d a) (past ++ e ∷ []) m.0 (subst (IsLegal d a) whole l) in
    let c = (claimed_done d a (past ++ e ∷ []) l1 (claim_claims d a (past ++ e ∷ []) past e p l1 ([], refl) act by pub_past all_open)).1 in
    let low = height-past (past ++ e ∷ []) c.past c.now c.stands in
    let same : height (past ++ e ∷ []) ≡ height past + entry_ticks e.what = sum_by_push (λ x. entry_ticks x.what) past e in
    let none : entry_ticks e.what ≡ 0 = ap entry_ticks act.what in
    let at = c.act.at in
    record {
      past = c.past;
      now = c.now;
      stands = (c.stands.0 ++ m.0, whole ∙ (ap (λ x. x ++ m.0) c.stands.1 ∙ rw append_assoc refl));
      claims =
          c.took;
      height = omega arith;
    }
  where
    append_assoc_at : (past ++ e ∷ []) ++ m.0 ≡ past ++ e ∷ m.0
    append_assoc_at = rw append_assoc refl

-- the accepted unlock for a lock is the one that opened it
pub opened_once : (d : Deal) (a : ℕ) (h : List Entry) (i t : ℕ) (key : Hashkey) (o : Opening) → IsLegal d a h → Done d a h (Unlock key) t → key.lock ≡ i
    → opened h i ≡ Some o → t ≡ o.height
opened_once d a h i t key o l done e q =
    let u = opened_done d a h i o l q in
    let of_done = of_unlock d a done.past done.act.by key done.clear in
    let of_u = of_unlock d a u.0.past u.0.act.by o.key u.0.clear in
    go done u.0 of_done.closed of_u.closed (u.1 ∙ sym e) (moments_in_order h done.past u.0.past done.now u.0.now done.stands u.0.stands)
  where
    go : (x : Done d a h (Unlock key) t) (y : Done d a h (Unlock o.key) o.height) → is_open x.past key.lock ≡ false → is_open y.past o.key.lock ≡ false
        → o.key.lock ≡ key.lock → Order x.past x.now y.past y.now → t ≡ o.height
    go x y cx cy s (Same p n) = x.at ∙ (ap height p ∙ sym y.at)
    go x y cx cy s (Earlier m) = absurd (false≢true (sym cy ∙ (ap (is_open y.past) s ∙ opened-now y.past x.past x.now key m x.took)))
    go x y cx cy s (Later m) = absurd (false≢true (sym cx ∙ (ap (is_open x.past) (sym s) ∙ opened-now x.past y.past y.now o.key m y.took)))

-- The least expiry of a closed lock.

least-in : (x : ℕ) (xs : List ℕ) → IsElement (least (x ∷ xs)) (x ∷ xs)
least-in x [] = inl refl
least-in x (y ∷ xs) = elim (min_cases x (least (y ∷ xs))) [ inl e ↦ inl e | inr e ↦ inr (subst (λ z. IsElement z (y ∷ xs)) (sym e) (least-in y xs)) ]
  where
    min_cases : (m n : ℕ) → (min m n ≡ m) ⊎ (min m n ≡ n)
    min_cases m n = grind arith

pub least-below : (xs : List ℕ) (x : ℕ) → IsElement x xs → least xs ≤ x
least-below [] x i = absurd i
least-below (y ∷ []) x (inl e) = omega arith
least-below (y ∷ []) x (inr i) = absurd i
least-below (y ∷ z ∷ xs) x (inl e) = omega arith
least-below (y ∷ z ∷ xs) x (inr i) = let h = least-below (z ∷ xs) x i in omega arith

from_map : {A B : Type 0} (f : A → B) (xs : List A) (y : B) → IsElement y (map f xs) → (x : A) × IsElement x xs × (f x ≡ y)
from_map f [] y i = absurd i
from_map f (x ∷ xs) y (inl e) = (x, inl refl, sym e)
from_map f (x ∷ xs) y (inr i) = let r = from_map f xs y i in (r.0, inr r.1, r.2)

-- the closed lock with the least expiry
pub record FirstExpiry (d : Deal) (a : ℕ) (t : Terms) (o : ℕ → Bool) : Type 0 where
  pub lock : ℕ
  pub within : IsElement lock (locks d)
  pub closed : o lock ≡ false
  pub height : lock_expiry d.mode d a t lock ≡ refund_expiry d a t o

pub first_expiry : (d : Deal) (a : ℕ) (t : Terms) (o : ℕ → Bool) → are_open d o ≡ false → FirstExpiry d a t o
first_expiry d a t o h =
    let shut = some_fails_all o (locks d) h in
    go shut.0 (closed_locks d o) refl (in_filter (λ i. not (o i)) shut.0 (locks d) shut.1 (ap not shut.2))
  where
    go : (x : ℕ) (xs : List ℕ) → closed_locks d o ≡ xs → IsElement x xs → FirstExpiry d a t o
    go x [] e i = absurd i
    go x (y ∷ ys) e i =
        let m = least-in (lock_expiry d.mode d a t y) (map (lock_expiry d.mode d a t) ys) in
        let r = from_map (lock_expiry d.mode d a t) (y ∷ ys) (least (map (lock_expiry d.mode d a t) (y ∷ ys))) m in
        let q = from_filter (λ i. not (o i)) r.0 (locks d) (subst (IsElement r.0) (sym e) r.1) in
        record { lock = r.0; within = q.0; closed = not-true-of (o r.0) q.1; height = r.2 ∙ ap (λ z. least (map (lock_expiry d.mode d a t) z)) (sym e) }

pub refund_expiry-low : (d : Deal) (a : ℕ) (t : Terms) (o : ℕ → Bool) (i : ℕ) → IsElement i (locks d) → o i ≡ false
    → refund_expiry d a t o ≤ lock_expiry d.mode d a t i
refund_expiry-low d a t o i w h =
    least-below (map (lock_expiry d.mode d a t) (closed_locks d o)) (lock_expiry d.mode d a t i)
    (in_map (lock_expiry d.mode d a t) (closed_locks d o) i (in_filter (λ i. not (o i)) i (locks d) w (ap not h)))

-- a closed lock that is expired at a height
pub record Expired (d : Deal) (a : ℕ) (h : List Entry) (at : ℕ) : Type 0 where
  pub lock : ℕ
  pub within : IsElement lock (locks d)
  pub closed : is_open h lock ≡ false
  pub above : expiry d a lock < at

pub expired_lock : (d : Deal) (a : ℕ) (h : List Entry) (at : ℕ) → has_expired d a h at ≡ true → Expired d a h at
expired_lock d a h at e =
    let f = any_at (λ i. not (is_open h i) && nat_lt (expiry d a i) at) (locks d) e in
    let k = and_parts (not (is_open h f.now)) (nat_lt (expiry d a f.now) at) f.passes in
    record {
      lock = f.now;
      within = subst (IsElement f.now) (sym f.stands.1) (in_from_moment f.past f.now f.stands.0);
      closed = not-true-of (is_open h f.now) k.0;
      above = ltb-true (expiry d a f.now) at k.1;
    }

pub has_expired-lock : (d : Deal) (a : ℕ) (h : List Entry) (at i : ℕ) → IsElement i (locks d) → is_open h i ≡ false → expiry d a i < at → has_expired d a h at ≡ true
has_expired-lock d a h at i w c l =
    list_any-in (λ i. not (is_open h i) && nat_lt (expiry d a i) at) (locks d) i
    (and_both (not (is_open h i)) (nat_lt (expiry d a i) at) (ap not c) (lt-ltb (expiry d a i) at l)) w

-- a height is above the least expiry of the closed locks exactly where it is above one of them
pub expired-least : (d : Deal) (a : ℕ) (h : List Entry) (at : ℕ) → has_expired d a h at ≡ true → least_expiry d a h < at
expired-least d a h at e =
    let x = expired_lock d a h at e in
    let y = refund_expiry-low d a (stated_terms d a) (is_open h) x.lock x.within x.closed in
    let z = x.above in omega arith

pub least-expired : (d : Deal) (a : ℕ) (h : List Entry) (at : ℕ) → triggered d h ≡ false → least_expiry d a h < at → has_expired d a h at ≡ true
least-expired d a h at shut l =
    let x = first_expiry d a (stated_terms d a) (is_open h) shut in
    let y = x.height in
    has_expired-lock d a h at x.lock x.within x.closed (omega arith)

-- A moment of a moment's past is a moment of the whole.
pub moment_within : {A : Type 0} (h past before : List A) (x y : A) → IsMoment h past x → IsMoment past before y → IsMoment h before y
moment_within h past before x y m n = (n.0 ++ x ∷ m.0, m.1 ∙ (ap (λ l. l ++ x ∷ m.0) n.1 ∙ rw append_assoc refl))
