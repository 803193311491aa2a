-- Paths to the one leader, and the part of a path up to a follower on it.
use Rattle.std.proofs.Common.{◌≡◌, ◌⊎◌, ℕ, Bool, true, false, not, List, [], ◌∷◌, refl, sym, ap, ◌∙◌, subst, inl, inr, eqb-true, eq-eqb, lt-ltb}
use Rattle.swap_base.specs.Lists.{IsElement}
use Rattle.swap_base.proofs.Lists.{and_parts, and_both}
use Rattle.swap_digraph.specs.Value.{Graph}
use Rattle.swap_digraph.specs.Graph.{is_path, has_arc, is_listed, first_is, last_is, are_followers}
use Rattle.swap_digraph.proofs.Paths.{is_listed-true, in-is_listed, last_unlock, Step, path_step, path_more, path_below}

pub leader_among : (l v : ℕ) → not (is_listed v (l ∷ [])) ≡ false → v ≡ l
leader_among l v e = go (is_listed-true v (l ∷ []) (no_not (is_listed v (l ∷ [])) e))
  where
    no_not : (b : Bool) → not b ≡ false → b ≡ true
    no_not true h = refl
    no_not false h = cc h

    go : IsElement v (l ∷ []) → v ≡ l
    go (inl q) = q
    go (inr i) = absurd i

pub not_leader : (l v : ℕ) → (v ≡ l → ⊥) → not (is_listed v (l ∷ [])) ≡ true
not_leader l v n = go (not (is_listed v (l ∷ []))) (λ e. n (leader_among l v e))
  where
    go : (b : Bool) → (b ≡ false → ⊥) → b ≡ true
    go true h = refl
    go false h = absurd (h refl)

pub is_leader_not : (l v : ℕ) → not (is_listed v (l ∷ [])) ≡ true → v ≡ l → ⊥
is_leader_not l v e q = go (is_listed v (l ∷ [])) (in-is_listed v (l ∷ []) (inl q)) e
  where
    go : (b : Bool) → b ≡ true → not b ≡ true → ⊥
    go true h k = cc k
    go false h k = cc h

-- a path that ends in the leader, or that meets no leader
abbrev pub Meets : ℕ → List ℕ → Type 0
Meets l p = (last_is l p ≡ true) ⊎ (are_followers (l ∷ []) p ≡ true)

-- but at its end it doesn't meet the leader
pub meets_rest : (g : Graph) (l u w : ℕ) (p : List ℕ) → is_path g (u ∷ w ∷ p) ≡ true → Meets l (u ∷ w ∷ p)
    → (not (is_listed u (l ∷ [])) ≡ true) × Meets l (w ∷ p)
meets_rest g l u w p e (inl last) = (
  not_leader l u (λ q. (path_step g u w p e).fresh (subst (λ x. IsElement x (w ∷ p)) (sym q) (last_unlock l (w
      ∷ p) last))),
  inl last,
)
meets_rest g l u w p e (inr o) = let k = and_parts (not (is_listed u (l ∷ []))) (are_followers (l ∷ []) (w ∷ p)) o in (k.0, inr k.1)

module _ (g : Graph) (l : ℕ) where
  -- the part of a path that leads to a follower on it
  pub record Part (u v : ℕ) (p : List ℕ) : Type 0 where
    pub part : List ℕ
    pub path : is_path g part ≡ true
    pub first : first_is u part ≡ true
    pub last : last_is v part ≡ true
    pub followers : are_followers (l ∷ []) part ≡ true
    pub inside : (x : ℕ) → IsElement x part → IsElement x p

  pub part_to : (u v : ℕ) (p : List ℕ) → is_path g (u ∷ p) ≡ true → Meets l (u ∷ p) → (v ≡ l → ⊥) → IsElement v (u ∷ p) → Part u v (u ∷ p)
  part_to u v p e m n (inl q) = record {
    part = u ∷ [];
    path = lt-ltb u g.n (path_below g (u ∷ p) u e (inl refl));
    first = eq-eqb u u refl;
    last = eq-eqb u v (sym q);
    followers = and_both (not (is_listed u (l ∷ []))) true (not_leader l u (λ k. n (q ∙ k))) refl;
    inside = λ x. elim [ inl k ↦ inl k | inr j ↦ absurd j ];
  }
  part_to u v [] e m n (inr i) = absurd i
  part_to u v (w ∷ p) e m n (inr i) =
      let s = path_step g u w p e in
      let k = meets_rest g l u w p e m in
      go s k.0 (part_to w v p s.rest k.1 n i)
    where
      go : Step g u w p → not (is_listed u (l ∷ [])) ≡ true → Part w v (w ∷ p) → Part u v (u ∷ w ∷ p)
      go s a r = more r.part r.path r.first r.last r.followers r.inside
        where
          more : (q : List ℕ) → is_path g q ≡ true → first_is w q ≡ true → last_is v q ≡ true → are_followers (l ∷ []) q ≡ true
              → ((x : ℕ) → IsElement x q → IsElement x (w ∷ p)) → Part u v (u ∷ w ∷ p)
          more [] k f t o m = absurd (cc k)
          more (z ∷ q) k f t o m =
              let same : z ≡ w = eqb-true z w f in
              record {
                part = u ∷ z ∷ q;
                path = path_more g u z q s.below (λ j. s.fresh (m u j)) (ap (has_arc g u) same ∙ s.arc) k;
                first = eq-eqb u u refl;
                last = t;
                followers = and_both (not (is_listed u (l ∷ []))) (are_followers (l ∷ []) (z ∷ q)) a o;
                inside = λ x. elim [ inl j ↦ inl j | inr j ↦ inr (m x j) ];
              }
