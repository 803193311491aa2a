-- Paths are as long as the vertices allow, and how paths of followers go on.
use Rattle.std.proofs.Common.{◌≡◌, ◌⊎◌, ℕ, suc, ◌<◌, ◌≤◌, ◌==◌, Bool, true, false, cond, not, ◌&&◌, ◌||◌, List, [], ◌∷◌, ◌++◌, length}
use Rattle.std.proofs.Common.{filter, refl, sym, ap, ◌∙◌, subst, inl, inr, arith, eqb-true, eq-eqb, ltb-true, lt-ltb, nat_lt}
use Rattle.std.specs.List.{range_with_len}
use Rattle.swap_base.specs.Lists.{IsElement}
use Rattle.swap_base.proofs.Lists.{and_parts, and_both, list_any-in, from_filter, in_range, from_append, length-range}
use Rattle.swap_digraph.specs.Value.{Graph}
use Rattle.swap_digraph.specs.Graph.{is_path, is_listed, has_arc, first_is, last_is, are_followers, IsConnectingPath}

is_listed-head : (v w : ℕ) (vs : List ℕ) (b : Bool) → (w == v) ≡ b → (b || is_listed v vs) ≡ true → (is_listed v vs ≡ true → IsElement v vs) → IsElement v (w ∷ vs)
is_listed-head v w vs true h k rest = inl (sym (eqb-true w v h))
is_listed-head v w vs false h k rest = inr (rest k)

pub is_listed-true : (v : ℕ) (vs : List ℕ) → is_listed v vs ≡ true → IsElement v vs
is_listed-true v [] e = absurd (cc e)
is_listed-true v (w ∷ vs) e = is_listed-head v w vs (w == v) refl e (is_listed-true v vs)

pub in-is_listed : (v : ℕ) (vs : List ℕ) → IsElement v vs → is_listed v vs ≡ true
in-is_listed v vs i = list_any-in (λ w. w == v) vs v (eq-eqb v v refl) i

abbrev pub AreDistinct : List ℕ → Type 0
AreDistinct [] = Unit {0}
AreDistinct (x ∷ p) = (IsElement x p → ⊥) × AreDistinct p

pub record Step (g : Graph) (u v : ℕ) (p : List ℕ) : Type 0 where
  pub below : u < g.n
  pub fresh : IsElement u (v ∷ p) → ⊥
  pub arc : has_arc g u v ≡ true
  pub rest : is_path g (v ∷ p) ≡ true

pub path_step : (g : Graph) (u v : ℕ) (p : List ℕ) → is_path g (u ∷ v ∷ p) ≡ true → Step g u v p
path_step g u v p e =
    let k1 = and_parts (nat_lt u g.n && not (is_listed u (v ∷ p)) && has_arc g u v) (is_path g (v ∷ p)) e in
    let k2 = and_parts (nat_lt u g.n && not (is_listed u (v ∷ p))) (has_arc g u v) k1.0 in
    let k3 = and_parts (nat_lt u g.n) (not (is_listed u (v ∷ p))) k2.0 in
    record { below = ltb-true u g.n k3.0; fresh = λ i. no_not (is_listed u (v ∷ p)) k3.1 (in-is_listed u (v ∷ p) i); arc = k2.1; rest = k1.1 }
  where
    no_not : (b : Bool) → not b ≡ true → b ≡ true → ⊥
    no_not true h k = cc h
    no_not false h k = cc k

pub not_among : (u : ℕ) (p : List ℕ) → (IsElement u p → ⊥) → not (is_listed u p) ≡ true
not_among u p h = go (is_listed u p) refl
  where
    go : (b : Bool) → is_listed u p ≡ b → not b ≡ true
    go true e = absurd (h (is_listed-true u p e))
    go false e = refl

pub path_more : (g : Graph) (u v : ℕ) (p : List ℕ) → u < g.n → (IsElement u (v ∷ p) → ⊥) → has_arc g u v ≡ true → is_path g (v ∷ p) ≡ true
    → is_path g (u ∷ v ∷ p) ≡ true
path_more g u v p b f a r =
    and_both (nat_lt u g.n && not (is_listed u (v ∷ p)) && has_arc g u v) (is_path g (v ∷ p))
    (and_both (nat_lt u g.n && not (is_listed u (v ∷ p))) (has_arc g u v)
    (and_both (nat_lt u g.n) (not (is_listed u (v ∷ p))) (lt-ltb u g.n b) (not_among u (v ∷ p) f)) a) r

pub path_distinct : (g : Graph) (p : List ℕ) → is_path g p ≡ true → AreDistinct p
path_distinct g [] e = tt
path_distinct g (u ∷ []) e = (λ i. i, tt)
path_distinct g (u ∷ v ∷ p) e = let s = path_step g u v p e in (s.fresh, path_distinct g (v ∷ p) s.rest)

pub path_below : (g : Graph) (p : List ℕ) (x : ℕ) → is_path g p ≡ true → IsElement x p → x < g.n
path_below g [] x e i = absurd i
path_below g (u ∷ []) x e (inl q) = rw q (ltb-true u g.n e)
path_below g (u ∷ []) x e (inr i) = absurd i
path_below g (u ∷ v ∷ p) x e (inl q) = rw q (path_step g u v p e).below
path_below g (u ∷ v ∷ p) x e (inr i) = path_below g (v ∷ p) x (path_step g u v p e).rest i

pub last_unlock : (l : ℕ) (p : List ℕ) → last_is l p ≡ true → IsElement l p
last_unlock l [] e = absurd (cc e)
last_unlock l (u ∷ []) e = inl (sym (eqb-true u l e))
last_unlock l (u ∷ w ∷ p) e = inr (last_unlock l (w ∷ p) e)

-- the only path from a vertex to itself is that vertex alone
pub alone : (g : Graph) (v : ℕ) (p : List ℕ) → is_path g p ≡ true → first_is v p ≡ true → last_is v p ≡ true → length p ≡ 1
alone g v [] e f l = absurd (cc e)
alone g v (u ∷ []) e f l = refl
alone g v (u ∷ w ∷ p) e f l =
    let s = path_step g u w p e in
    absurd (s.fresh (subst (λ x. IsElement x (w ∷ p)) (sym (eqb-true u v f)) (last_unlock v (w ∷ p) l)))

pub some_length : (g : Graph) (p : List ℕ) → is_path g p ≡ true → 0 < length p
some_length g [] e = absurd (cc e)
some_length g (u ∷ p) e = omega arith

-- Distinct elements of a list are at most as many as the list has.

pub record Without (x : ℕ) (ls : List ℕ) : Type 0 where
  pub rest : List ℕ
  pub shorter : length ls ≡ suc (length rest)
  pub others : (y : ℕ) → (y ≡ x → ⊥) → IsElement y ls → IsElement y rest

without : (x : ℕ) (ls : List ℕ) → IsElement x ls → Without x ls
without x [] i = absurd i
without x (l ∷ ls) (inl e) = record { rest = ls; shorter = refl; others = λ y n. elim [ inl q ↦ absurd (n (q ∙ sym e)) | inr j ↦ j ] }
without x (l ∷ ls) (inr i) =
    let w = without x ls i in
    record { rest = l ∷ w.rest; shorter = ap suc w.shorter; others = λ y n. elim [ inl q ↦ inl q | inr j ↦ inr (w.others y n j) ] }

pub subset_length : (p ls : List ℕ) → AreDistinct p → ((x : ℕ) → IsElement x p → IsElement x ls) → length p ≤ length ls
subset_length [] ls d h = omega arith
subset_length (x ∷ p) ls d h =
    let w = without x ls (h x (inl refl)) in
    let k = subset_length p w.rest d.1 (λ y i. w.others y (λ e. d.0 (subst (λ z. IsElement z p) e i)) (h y (inr i))) in
    let s = w.shorter in omega arith

pub path_length : (g : Graph) (p : List ℕ) → is_path g p ≡ true → length p ≤ g.n
path_length g p e =
    let k = subset_length p (range_with_len 0 g.n) (path_distinct g p e) (λ x i. in_range x g.n (path_below g p x e i)) in
    let z = length-range 0 g.n in omega arith

pub distinct_filter : (f : ℕ → Bool) (p : List ℕ) → AreDistinct p → AreDistinct (filter f p)
distinct_filter f [] d = tt
distinct_filter f (x ∷ p) d = go (f x) (distinct_filter f p d.1)
  where
    go : (b : Bool) → AreDistinct (filter f p) → AreDistinct (cond b (x ∷ filter f p) (filter f p))
    go true r = (λ i. d.0 (from_filter f x p i).0, r)
    go false r = r

-- Paths of followers that go on.

pub path_snoc : (g : Graph) (p : List ℕ) (x u : ℕ) → is_path g p ≡ true → last_is x p ≡ true → has_arc g x u ≡ true → u < g.n → (IsElement u p → ⊥)
    → (is_path g (p ++ u ∷ []) ≡ true) × (last_is u (p ++ u ∷ []) ≡ true)
path_snoc g [] x u e last a b f = absurd (cc e)
path_snoc g (w ∷ []) x u e last a b f =
    let same : w ≡ x = eqb-true w x last in
    (path_more g w u [] (ltb-true w g.n e) (elim [ inl q ↦ f (inl (sym q)) | inr j ↦ j ]) (ap (λ z. has_arc g z u) same ∙ a) (lt-ltb u g.n b), eq-eqb u u refl)
path_snoc g (w ∷ y ∷ p) x u e last a b f =
    let s = path_step g w y p e in
    let r = path_snoc g (y ∷ p) x u s.rest last a b (λ j. f (inr j)) in
    (path_more g w y (p ++ u ∷ []) s.below (λ j. apart (from_append (y ∷ p) (u ∷ []) w j) s) s.arc r.0, r.1)
  where
    apart : IsElement w (y ∷ p) ⊎ IsElement w (u ∷ []) → Step g w y p → ⊥
    apart (inl j) s = s.fresh j
    apart (inr (inl q)) s = f (inl (sym q))
    apart (inr (inr j)) s = j

pub record Suffix (g : Graph) (ls : List ℕ) (u x : ℕ) : Type 0 where
  pub part : List ℕ
  pub between : IsConnectingPath g u x part
  pub followers : are_followers ls part ≡ true

pub suffix_from : (g : Graph) (ls p : List ℕ) (u x : ℕ) → is_path g p ≡ true → last_is x p ≡ true → are_followers ls p ≡ true → IsElement u p → Suffix g ls u x
suffix_from g ls [] u x e last o i = absurd i
suffix_from g ls (w ∷ p) u x e last o (inl q) = record { part = w ∷ p; between = (e, eq-eqb w u (sym q), last); followers = o }
suffix_from g ls (w ∷ []) u x e last o (inr i) = absurd i
suffix_from g ls (w ∷ y ∷ p) u x e last o (inr i) =
    suffix_from g ls (y ∷ p) u x (path_step g w y p e).rest last (and_parts (not (is_listed w ls)) (are_followers ls (y ∷ p)) o).1 i

pub followers-append : (ls p : List ℕ) (u : ℕ) → are_followers ls p ≡ true → is_listed u ls ≡ false → are_followers ls (p ++ u ∷ []) ≡ true
followers-append ls [] u o f = and_both (not (is_listed u ls)) true (ap not f) refl
followers-append ls (w ∷ p) u o f =
    let k = and_parts (not (is_listed w ls)) (are_followers ls p) o in
    and_both (not (is_listed w ls)) (are_followers ls (p ++ u ∷ [])) k.0 (followers-append ls p u k.1 f)
