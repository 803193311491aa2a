-- The distance of a party is the greatest number of arcs on a path from it to the leader.
use Rattle.std.proofs.Common.{◌≡◌, ◌⊎◌, ℕ, suc, zero, ◌+◌, ◌<◌, ◌≤◌, ◌==◌, Bool, true, false, cond, not, IsTrue, List, [], ◌∷◌, length, get_or, refl}
use Rattle.std.proofs.Common.{sym, ap, ◌∙◌, subst, inl, inr, arith, eqb-true, eq-eqb, lt-ltb}
use Rattle.std.proofs.lemmas.Bool.{false≢true}
use Rattle.swap_base.specs.Lists.{IsElement, greatest}
use Rattle.swap_base.proofs.Lists.{and_both, greatest-in, greatest-below}
use Rattle.swap_digraph.specs.declared.arc_ends.ArcEnds.{ArcEnds}
use Rattle.swap_digraph.specs.Value.{Graph}
use Rattle.swap_digraph.specs.Graph.{is_path, has_arc, is_listed, last_is, listed_arcs, are_followers, IsConnectingPath, IsStronglyConnected}
use Rattle.swap_digraph.specs.Graph.{IsFeedback, IsHeight, IsDist, HasEnds}
use Rattle.time_bounds.specs.Times.{need}
use Rattle.leader_check.specs.Followers.{is_follower}
use Rattle.leader_check.proofs.Followers.{follower_is, parse_arc, arc_from, greatest-reached}
use Rattle.swap_digraph.proofs.Paths.{in-is_listed, path_step, path_more, path_length}
use Rattle.swap_digraph.proofs.LeaderPaths.{leader_among, not_leader, is_leader_not, meets_rest, part_to}
use Rattle.leader_check.proofs.Bounds.{paths_to_leaders_are_bounded}
use Rattle.leader_check.specs.Distance.{greatest_next_value, prior_distance, bounded_distance, leader_distance}

-- Values after a vertex.

after-arc : (g : Graph) (f : ℕ → ℕ) (v w : ℕ) → has_arc g v w ≡ true → f w ≤ greatest_next_value g f v
unfolding greatest_next_value
after-arc g f v w e =
    let a = parse_arc g v w e in
    let m = greatest-in (λ b. cond (b.from == v) (f b.to) 0) g.arcs a.arc a.among in
    let k : cond (a.arc.from == v) (f a.arc.to) 0 ≡ f w = ap (λ b. cond b (f a.arc.to) 0) (eq-eqb a.arc.from v a.from) ∙ ap f a.to in
    omega (arith, m, k)

-- the greatest value after v is that of some vertex, where it is not 0
after-reached : (g : Graph) (f : ℕ → ℕ) (v : ℕ) → (greatest_next_value g f v ≡ 0) ⊎ ((w : ℕ) × (has_arc g v w ≡ true) × (f w ≡ greatest_next_value g f v))
unfolding greatest_next_value
after-reached g f v = go (greatest-reached (λ b. cond (b.from == v) (f b.to) 0) g.arcs)
  where
    by_test : (a : ArcEnds) (b : Bool) (m : ℕ) → IsElement a g.arcs → (a.from == v) ≡ b → cond b (f a.to) 0 ≡ m
        → (m ≡ 0) ⊎ ((w : ℕ) × (has_arc g v w ≡ true) × (f w ≡ m))
    by_test a true m i t e = inr (a.to, arc_from g a v a.to i (eqb-true a.from v t) refl, e)
    by_test a false m i t e = inl (sym e)

    go : (greatest (λ b. cond (b.from == v) (f b.to) 0) g.arcs ≡ 0)
        ⊎ ((a : ArcEnds) × IsElement a g.arcs × (cond (a.from == v) (f a.to) 0 ≡ greatest (λ b. cond (b.from == v) (f b.to) 0) g.arcs))
        → (greatest (λ b. cond (b.from == v) (f b.to) 0) g.arcs ≡ 0)
        ⊎ ((w : ℕ) × (has_arc g v w ≡ true) × (f w ≡ greatest (λ b. cond (b.from == v) (f b.to) 0) g.arcs))
    go (inl z) = inl z
    go (inr a) = by_test a.0 (a.0.from == v) (greatest (λ b. cond (b.from == v) (f b.to) 0) g.arcs) a.1 refl a.2

pub after-below : (g : Graph) (f : ℕ → ℕ) (v m : ℕ) → ((w : ℕ) → f w ≤ m) → greatest_next_value g f v ≤ m
unfolding greatest_next_value
after-below g f v m le = greatest-below (λ b. cond (b.from == v) (f b.to) 0) g.arcs m (λ a i. go (a.from == v) a.to)
  where
    go : (b : Bool) (w : ℕ) → cond b (f w) 0 ≤ m
    go true w = le w
    go false w = omega arith

pub before-follower : (g : Graph) (l : ℕ) (f : ℕ → ℕ) (v : ℕ) → is_follower g (l ∷ []) v ≡ true → prior_distance g l f v ≡ greatest_next_value g f v + 1
unfolding prior_distance
before-follower g l f v e = ap (λ b. cond b (greatest_next_value g f v + 1) 0) e

pub before-other : (g : Graph) (l : ℕ) (f : ℕ → ℕ) (v : ℕ) → is_follower g (l ∷ []) v ≡ false → prior_distance g l f v ≡ 0
unfolding prior_distance
before-other g l f v e = ap (λ b. cond b (greatest_next_value g f v + 1) 0) e

before-below : (g : Graph) (l : ℕ) (f : ℕ → ℕ) (v m : ℕ) → ((w : ℕ) → f w ≤ m) → prior_distance g l f v ≤ suc m
unfolding prior_distance
before-below g l f v m le = go (is_follower g (l ∷ []) v) (after-below g f v m le)
  where
    go : (b : Bool) → greatest_next_value g f v ≤ m → cond b (greatest_next_value g f v + 1) 0 ≤ suc m
    go true k = omega arith
    go false k = omega arith

pub within-suc : (g : Graph) (l k v : ℕ) → bounded_distance g l (suc k) v ≡ prior_distance g l (bounded_distance g l k) v
unfolding bounded_distance
within-suc g l k v = refl

pub within-below : (g : Graph) (l k v : ℕ) → bounded_distance g l k v ≤ k
unfolding bounded_distance
within-below g l zero v = omega arith
within-below g l (suc k) v = before-below g l (bounded_distance g l k) v k (within-below g l k)

-- Ends of arcs.

find_place : {A : Type 0} (xs : List A) (x d : A) → IsElement x xs → (i : ℕ) × (i < length xs) × (get_or xs i d ≡ x)
find_place [] x d i = absurd i
find_place (y ∷ xs) x d (inl e) = (0, omega arith, sym e)
find_place (y ∷ xs) x d (inr i) = let r = find_place xs x d i in (suc r.0, omega arith, r.2)

arc_below : (g : Graph) (v w : ℕ) → HasEnds g → has_arc g v w ≡ true → w < g.n
arc_below g v w ends e =
    let a = parse_arc g v w e in
    let p = find_place g.arcs a.arc (record { from = 0; to = 0 }) a.among in
    let b = ends.to p.0 p.1 in
    let s : (get_or g.arcs p.0 (record { from = 0; to = 0 })).to ≡ w = ap (λ (x : ArcEnds). x.to) p.2 ∙ a.to in
    rw s at b

-- The leader.

pub leader_follows_not : (g : Graph) (l v : ℕ) → v < g.n → l ≡ v → is_follower g (l ∷ []) v ≡ false
leader_follows_not g l v b e = follower_is g (l ∷ []) v b ∙ ap not (in-is_listed v (l ∷ []) (inl (sym e)))

pub other_follows : (g : Graph) (l v : ℕ) → v < g.n → (l ≡ v → ⊥) → is_follower g (l ∷ []) v ≡ true
other_follows g l v b n = follower_is g (l ∷ []) v b ∙ not_leader l v (λ e. n (sym e))

-- the distance of a party, by a test whether it leads
pub before_is : (g : Graph) (l : ℕ) (f : ℕ → ℕ) (v : ℕ) → v < g.n → cond (l == v) 0 (greatest_next_value g f v + 1) ≡ prior_distance g l f v
before_is g l f v b = go (l == v) refl
  where
    no : (t : Bool) → t ≡ false → t ≡ true → ⊥
    no true h i = cc h
    no false h i = cc i

    go : (t : Bool) → (l == v) ≡ t → cond t 0 (greatest_next_value g f v + 1) ≡ prior_distance g l f v
    go true e = sym (before-other g l f v (leader_follows_not g l v b (eqb-true l v e)))
    go false e = sym (before-follower g l f v (other_follows g l v b (λ q. no (l == v) e (eq-eqb l v q))))

module _ (g : Graph) (l : ℕ) where
  -- every path to the leader is at most as long
  far-most : (u : ℕ) (p : List ℕ) (m : ℕ) → is_path g (u ∷ p) ≡ true → last_is l (u ∷ p) ≡ true → length p ≤ m → length p ≤ bounded_distance g l m u
  far-most u [] m e last le = omega arith
  far-most u (w ∷ p) zero e last le = absurd (omega arith)
  far-most u (w ∷ p) (suc m) e last le =
      let s = path_step g u w p e in
      let k = meets_rest g l u w p e (inl last) in
      let r = far-most w p m s.rest last (omega arith) in
      let follows = follower_is g (l ∷ []) u s.below ∙ k.0 in
      let x : bounded_distance g l (suc m) u ≡ greatest_next_value g (bounded_distance g l m) u + 1 = within-suc g l m u
      ∙ before-follower g l (bounded_distance g l m) u follows in
      let y = after-arc g (bounded_distance g l m) u w s.arc in
      omega (arith, r, x, y)

module _ (g : Graph) (l : ℕ) (ends : HasEnds g) (strong : IsStronglyConnected g) (leads : l < g.n) (feedback : IsFeedback g (l ∷ [])) where
  -- a path of d arcs from v that ends in the leader, or is cut off at k arcs
  record Far (v k d : ℕ) : Type 0 where
    rest : List ℕ
    path : is_path g (v ∷ rest) ≡ true
    size : length rest ≡ d
    end : (last_is l (v ∷ rest) ≡ true) ⊎ ((are_followers (l ∷ []) (v ∷ rest) ≡ true) × (length rest ≡ k))

  -- a follower has an arc
  has_next : (v : ℕ) → v < g.n → (v ≡ l → ⊥) → (w : ℕ) × (has_arc g v w ≡ true)
  has_next v b n = let s = strong v l b leads n in go s.0 s.1
    where
      go : (p : List ℕ) → IsConnectingPath g v l p → (w : ℕ) × (has_arc g v w ≡ true)
      go [] k = absurd (cc k.0)
      go (u ∷ []) k = absurd (n (sym (eqb-true u v k.1) ∙ eqb-true u l k.2))
      go (u ∷ w ∷ p) k = (w, ap (λ x. has_arc g x w) (sym (eqb-true u v k.1)) ∙ (path_step g u w p k.0).arc)

  -- the vertex after v that stands the farthest
  farthest : (f : ℕ → ℕ) (v : ℕ) → v < g.n → (v ≡ l → ⊥) → (w : ℕ) × (has_arc g v w ≡ true) × (f w ≡ greatest_next_value g f v)
  farthest f v b n = go (after-reached g f v)
    where
      go : (greatest_next_value g f v ≡ 0) ⊎ ((w : ℕ) × (has_arc g v w ≡ true) × (f w ≡ greatest_next_value g f v)) → (w : ℕ) × (has_arc g v w ≡ true) × (f w ≡ greatest_next_value g f v)
      go (inl z) = let w = has_next v b n in let m = after-arc g f v w.0 w.1 in (w.0, w.1, omega (arith, m, z))
      go (inr w) = w

  at_leader : (v k : ℕ) → v ≡ l → v < g.n → Far v k 0
  at_leader v k e b = record { rest = []; path = lt-ltb v g.n b; size = refl; end = inl (eq-eqb v l e) }

  further : (v w k d : ℕ) → v < g.n → not (is_listed v (l ∷ [])) ≡ true → has_arc g v w ≡ true → Far w k d → Far v (suc k) (d + 1)
  further v w k d b follows a r =
      let fresh : IsElement v (w ∷ r.rest) → ⊥ = λ i.
      let t = part_to g l w v r.rest r.path (elim r.end [ inl x ↦ inl x | inr x ↦ inr x.0 ]) (is_leader_not l v follows) i in
      false≢true (sym (feedback w v t.part (t.path, t.first, t.last) t.followers) ∙ a) in
      let s = r.size in
      record {
        rest = w ∷ r.rest;
        path = path_more g v w r.rest b fresh a r.path;
        size = omega (arith, s);
        end = elim r.end [ inl x ↦ inl x | inr x ↦ inr (and_both (not (is_listed v (l ∷ []))) (are_followers (l ∷ []) (w ∷ r.rest)) follows x.0, ap suc x.1) ];
      }

  far : (k v : ℕ) → v < g.n → Far v k (bounded_distance g l k v)
  unfolding bounded_distance
  far zero v b = go (not (is_listed v (l ∷ []))) refl
    where
      go : (t : Bool) → not (is_listed v (l ∷ [])) ≡ t → Far v 0 0
      go true e = record { rest = []; path = lt-ltb v g.n b; size = refl; end = inr (and_both (not (is_listed v (l ∷ []))) true e refl, refl) }
      go false e = at_leader v 0 (leader_among l v e) b
  far (suc k) v b = go (far k) (not (is_listed v (l ∷ []))) refl
    where
      go : ((w : ℕ) → w < g.n → Far w k (bounded_distance g l k w)) → (t : Bool) → not (is_listed v (l ∷ [])) ≡ t
          → Far v (suc k) (prior_distance g l (bounded_distance g l k) v)
      go rest true e =
          let w = farthest (bounded_distance g l k) v b (is_leader_not l v e) in
          let r = further v w.0 k (bounded_distance g l k w.0) b e w.1 (rest w.0 (arc_below g v w.0 ends w.1)) in
          let s : prior_distance g l (bounded_distance g l k) v ≡ bounded_distance g l k w.0 + 1 =
          before-follower g l (bounded_distance g l k) v (follower_is g (l ∷ []) v b ∙ e) ∙ ap (λ d. d + 1) (sym w.2) in
          subst (Far v (suc k)) (sym s) r
      go rest false e =
          let s : prior_distance g l (bounded_distance g l k) v ≡ 0 = before-other g l (bounded_distance g l k) v (follower_is g (l ∷ []) v b ∙ e) in
          subst (Far v (suc k)) (sym s) (at_leader v (suc k) (leader_among l v e) b)

  -- k arcs are enough where k is at least the height
  pub dist_is : (h k v : ℕ) → IsHeight g (l ∷ []) h → h ≤ k → v < g.n → IsDist g l v (bounded_distance g l k v)
  dist_is h k v height le b = record { reached = go (far k v b); most = most }
    where
      go : Far v k (bounded_distance g l k v) → (p : List ℕ) × IsConnectingPath g v l p × (listed_arcs p ≡ bounded_distance g l k v)
      go r = by_end r.end
        where
          by_end : (last_is l (v ∷ r.rest) ≡ true) ⊎ ((are_followers (l ∷ []) (v ∷ r.rest) ≡ true) × (length r.rest ≡ k))
              → (p : List ℕ) × IsConnectingPath g v l p × (listed_arcs p ≡ bounded_distance g l k v)
          by_end (inl x) = let s = r.size in (v ∷ r.rest, (r.path, eq-eqb v v refl, x), omega (arith, s))
          by_end (inr x) =
              let m = height.most (v ∷ r.rest) r.path x.0 in
              let s = x.1 in
              absurd (omega (arith, m, s))

      most : (p : List ℕ) → IsConnectingPath g v l p → listed_arcs p ≤ bounded_distance g l k v
      most [] x = absurd (cc x.0)
      most (u ∷ p) x =
          let same : u ≡ v = eqb-true u v x.1 in
          let law = paths_to_leaders_are_bounded g (l ∷ []) h height (u ∷ p) l x.0 x.2 (in-is_listed l (l ∷ []) (inl refl)) in
          let m = far-most g l u p k x.0 x.2 (omega (arith, law, le)) in
          let s : bounded_distance g l k u ≡ bounded_distance g l k v = ap (bounded_distance g l k) same in
          omega (arith, m, s)

  pub dist_bounded : (h v d : ℕ) → IsHeight g (l ∷ []) h → IsDist g l v d → d ≤ need g.n 1 h
  dist_bounded h v d height is =
      let r = is.reached in
      let law = paths_to_leaders_are_bounded g (l ∷ []) h height r.0 l r.1.0 r.1.2 (in-is_listed l (l ∷ []) (inl refl)) in
      let e = r.2 in
      omega (arith, law, e)

  pub dist_one : (v c d : ℕ) → IsDist g l v c → IsDist g l v d → c ≡ d
  dist_one v c d x y =
      let a = x.most y.reached.0 y.reached.1 in
      let b = y.most x.reached.0 x.reached.1 in
      let m = x.reached.2 in
      let n = y.reached.2 in
      omega (arith, a, b, m, n)

  height_below : (h : ℕ) → IsHeight g (l ∷ []) h → h ≤ g.n
  height_below h k = go k.reached
    where
      go : (h ≡ 0) ⊎ ((p : List ℕ) × IsTrue (is_path g p) × IsTrue (are_followers (l ∷ []) p) × (length p ≡ h)) → h ≤ g.n
      go (inl z) = omega arith
      go (inr p) = let n = path_length g p.0 p.1 in let e = p.3 in omega (arith, n, e)

  -- h rounds give the distance
  pub dist_by_rounds : (h v : ℕ) → IsHeight g (l ∷ []) h → v < g.n → bounded_distance g l h v ≡ leader_distance g l v
  unfolding leader_distance
  dist_by_rounds h v height b =
      dist_one v (bounded_distance g l h v) (bounded_distance g l g.n v) (dist_is h h v height (omega arith) b) (dist_is h g.n v height
      (height_below h height) b)
