-- Words on lists: pieces, prefixes and their moments.
use Rattle.std.proofs.Common.{append_assoc, length-append, ◌≡◌, ◌≢◌, ◌⊎◌, ℕ, ◌+◌, ◌<◌, ◌≤◌, ◌==◌, Bool, true, false, cond, List, [], ◌∷◌, ◌++◌, length}
use Rattle.std.proofs.Common.{None, refl, sym, ap, ◌∙◌, subst, inl, inr, arith, eqb-true, eq-eqb, append-nil}
use Rattle.std.specs.List.{list_any, flat_map}
use Rattle.std.proofs.lemmas.Bool.{false≢true}
use Rattle.swap_base.specs.Lists.{IsElement, IsMoment}
use Rattle.swap_base.proofs.Lists.{Order, moments_in_order, Earlier, Same, Later, any_at, list_any-in, in_from_moment, in_append, from_append}
use Rattle.ledger_core.specs.declared.entry.Entry.{Entry}
use Rattle.ledger_core.specs.History.{height, is_sender, made_call}
use Rattle.swap_rules.specs.Party.{pick_call}
use Rattle.ledger_core.proofs.History.{height_append, not-true}
use Rattle.swap_rules.specs.Machine.{Begins}

-- what stands in the whole stands in a piece
pub from_flat_map : {A B : Type 0} (f : A → List B) (xs : List A) (y : B) → IsElement y (flat_map f xs) → (x : A) × IsElement x xs × IsElement y (f x)
from_flat_map f [] y i = absurd i
from_flat_map f (x ∷ xs) y i =
    elim (from_append (f x) (flat_map f xs) y i) [ inl j ↦ (x, inl refl, j) | inr j ↦ (let r = from_flat_map f xs y j in (r.0, inr r.1, r.2)) ]

pub same_or_not : (m n : ℕ) → (m ≡ n) ⊎ (m ≢ n)
same_or_not m n = go (m == n) refl
  where
    go : (x : Bool) → (m == n) ≡ x → (m ≡ n) ⊎ (m ≢ n)
    go true e = inl (eqb-true m n e)
    go false e = inr (λ q. false≢true (sym e ∙ eq-eqb m n q))

-- A moment of the whole is one of the prefix, or the prefix stands before it.
pub split : {A : Type 0} (k rest past : List A) (x : A) (more : List A) → k ++ rest ≡ past ++ x ∷ more → IsMoment k past x ⊎ Begins k past
split [] rest past x more e = inr (past, refl)
split (y ∷ k) rest [] x more e = let q : y ≡ x = cc in inl (k, ap (λ z. z ∷ k) q)
split (y ∷ k) rest (z ∷ past) x more e = go (split k rest past x more (cc)) (cc)
  where
    go : IsMoment k past x ⊎ Begins k past → y ≡ z → IsMoment (y ∷ k) (z ∷ past) x ⊎ Begins (y ∷ k) (z ∷ past)
    go (inl m) q = inl (m.0, ap (λ l. y ∷ l) m.1 ∙ ap (λ w. w ∷ (past ++ x ∷ m.0)) q)
    go (inr b) q = inr (b.0, ap (λ l. z ∷ l) b.1 ∙ ap (λ w. w ∷ (k ++ b.0)) (sym q))

pub begins_refl : {A : Type 0} (h : List A) → Begins h h
begins_refl h = ([], sym (append-nil h))

pub begins_more : {A : Type 0} (h k l : List A) → Begins h k → Begins k l → Begins h l
begins_more h k l b c = (b.0 ++ c.0, c.1 ∙ (ap (λ z. z ++ c.0) b.1 ∙ append_assoc h b.0 c.0))

pub moment_more : {A : Type 0} (k h past : List A) (x : A) → Begins k h → IsMoment k past x → IsMoment h past x
moment_more k h past x b m = (m.0 ++ b.0, b.1 ∙ (ap (λ l. l ++ b.0) m.1 ∙ append_assoc past (x ∷ m.0) b.0))

pub begins_height : (k h : List Entry) → Begins k h → height k ≤ height h
begins_height k h b = let e : height h ≡ height k + height b.0 = ap height b.1 ∙ height_append k b.0 in omega arith

-- what stands below the height of a prefix stands in the prefix
pub in_front : (k h past : List Entry) (x : Entry) → Begins k h → IsMoment h past x → height past < height k → IsMoment k past x
in_front k h past x b m low = go (split k b.0 past x m.0 (sym b.1 ∙ m.1))
  where
    go : IsMoment k past x ⊎ Begins k past → IsMoment k past x
    go (inl n) = n
    go (inr c) = let l = begins_height k past c in absurd (omega arith)

-- a moment of a list with one more at its end
pub at_end : {A : Type 0} (h : List A) (y : A) (past : List A) (x : A) → IsMoment (h ++ y ∷ []) past x → IsMoment h past x ⊎ ((past ≡ h) × (x ≡ y))
at_end h y past x m = go (moments_in_order (h ++ y ∷ []) past h x y m ([], refl))
  where
    after : (r : List _) → h ++ y ∷ [] ≡ (h ++ y ∷ r) ++ x ∷ m.0 → ⊥
    after r e =
        let a1 : length (h ++ y ∷ []) ≡ length ((h ++ y ∷ r) ++ x ∷ m.0) = ap length e in
        let a2 : length (h ++ y ∷ []) ≡ length h + length (y ∷ []) = length-append h (y ∷ []) in
        let a3 : length ((h ++ y ∷ r) ++ x ∷ m.0) ≡ length (h ++ y ∷ r) + length (x ∷ m.0) = length-append (h ++ y ∷ r) (x ∷ m.0) in
        let a4 : length (h ++ y ∷ r) ≡ length h + length (y ∷ r) = length-append h (y ∷ r) in
        omega arith

    go : Order past x h y → IsMoment h past x ⊎ ((past ≡ h) × (x ≡ y))
    go (Earlier n) = inl n
    go (Same e f) = inr (e, f)
    go (Later n) = absurd (after n.0 (m.1 ∙ ap (λ l. l ++ x ∷ m.0) n.1))

pub list_any-more : {A : Type 0} (p : A → Bool) (xs ys : List A) → list_any p xs ≡ true → list_any p (xs ++ ys) ≡ true
list_any-more p xs ys e =
    let f = any_at p xs e in
    list_any-in p (xs ++ ys) f.now f.passes (in_append xs ys f.now (inl (subst (IsElement f.now) (sym f.stands.1) (in_from_moment f.past f.now f.stands.0))))

pub list_any-none : {A : Type 0} (p : A → Bool) (xs : List A) → ((x : A) → IsElement x xs → p x ≡ false) → list_any p xs ≡ false
list_any-none p xs h =
    not-true (list_any p xs) (λ e. let f = any_at p xs e in
    false≢true (sym (h f.now (subst (IsElement f.now) (sym f.stands.1) (in_from_moment f.past f.now f.stands.0))) ∙ f.passes))

pub in_any : {A : Type 0} (p : A → Bool) (xs : List A) → list_any p xs ≡ true → (x : A) × IsElement x xs × (p x ≡ true)
in_any p xs e = let f = any_at p xs e in (f.now, subst (IsElement f.now) (sym f.stands.1) (in_from_moment f.past f.now f.stands.0), f.passes)

pub not_any-in : {A : Type 0} (p : A → Bool) (xs : List A) (x : A) → list_any p xs ≡ false → IsElement x xs → p x ≡ false
not_any-in p xs x e i = not-true (p x) (λ q. false≢true (sym e ∙ list_any-in p xs x q i))

-- Calls of v.

pub none_called : (v : ℕ) (e : Entry) → is_sender v e.sender ≡ false → pick_call v e ≡ None
none_called v e s = ap (λ b. cond b (made_call e.what) None) s
