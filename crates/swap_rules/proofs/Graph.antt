-- How many followers a path has, and how distances fall along arcs.
use Rattle.std.proofs.Common.{◌≡◌, ◌⊎◌, ℕ, ◌+◌, ◌<◌, ◌≤◌, Bool, true, false, not, IsTrue, List, [], ◌∷◌, length, refl, sym, ap, ◌∙◌, subst, inl, inr, arith}
use Rattle.std.proofs.Common.{eqb-true, eq-eqb}
use Rattle.std.specs.List.{range_with_len}
use Rattle.std.proofs.lemmas.Bool.{false≢true}
use Rattle.swap_base.specs.Lists.{IsElement}
use Rattle.swap_base.proofs.Lists.{list_all-in, in_range, length-range}
use Rattle.swap_digraph.specs.Value.{Graph}
use Rattle.swap_digraph.specs.Graph.{is_path, is_listed, has_arc, listed_arcs, are_followers, IsConnectingPath, IsFeedback, IsHeight, IsDist}
use Rattle.swap_digraph.proofs.Paths.{in-is_listed, path_more, path_distinct, path_below, subset_length}
use Rattle.swap_digraph.proofs.LeaderPaths.{part_to}

-- followers on a path are fewer than all vertices, where there is a leader
pub height_below : (g : Graph) (ls : List ℕ) (l : ℕ) (h : ℕ) → IsElement l ls → l < g.n → IsHeight g ls h → h + 1 ≤ g.n
height_below g ls l h i b (k) = go k.reached
  where
    go : (h ≡ 0) ⊎ ((p : List ℕ) × IsTrue (is_path g p) × IsTrue (are_followers ls p) × (length p ≡ h)) → h + 1 ≤ g.n
    go (inl e) = omega arith
    go (inr p) =
        let fresh : IsElement l p.0 → ⊥ = λ j. both (is_listed l ls) (in-is_listed l ls i) (list_all-in (λ v. not (is_listed v ls)) p.0 l p.2 j) in
        let n =
        subset_length (l ∷ p.0) (range_with_len 0 g.n) (fresh, path_distinct g p.0 p.1) (λ x.
        elim [ inl q ↦ in_range x g.n (subst (λ z. z < g.n) (sym q) b) | inr j ↦ in_range x g.n (path_below g p.0 x p.1 j) ]) in
        let z = length-range 0 g.n in
        let e = p.3 in omega arith
      where
        both : (x : Bool) → x ≡ true → not x ≡ true → ⊥
        both true h k = cc k
        both false h k = cc h

module _ (g : Graph) (l : ℕ) (feedback : IsFeedback g (l ∷ [])) where
  -- along an arc from a follower the distance to the leader falls
  pub dist_falls : (v w dv dw : ℕ) → v < g.n → has_arc g v w ≡ true → (v ≡ l → ⊥) → IsDist g l v dv → IsDist g l w dw → dw + 1 ≤ dv
  dist_falls v w dv dw b a n x y = go y.reached.0 y.reached.1 y.reached.2
    where
      go : (p : List ℕ) → IsConnectingPath g w l p → listed_arcs p ≡ dw → dw + 1 ≤ dv
      go [] k e = absurd (cc k.0)
      go (u ∷ p) k e =
          let same : u ≡ w = eqb-true u w k.1 in
          let fresh : IsElement v (u ∷ p) → ⊥ = λ i.
          let t = part_to g l u v p k.0 (inl k.2) n i in
          false≢true (sym (feedback u v t.part (t.path, t.first, t.last) t.followers) ∙ (ap (has_arc g v) same ∙ a)) in
          let m = x.most (v ∷ u ∷ p) (path_more g v u p b fresh (ap (has_arc g v) same ∙ a) k.0, eq-eqb v v refl, k.2) in
          omega arith
