-- The level of a party is the most vertices on a path of followers that ends in it.
use Rattle.std.proofs.Common.{◌≡◌, ◌⊎◌, ℕ, suc, zero, ◌+◌, ◌<◌, ◌≤◌, ◌==◌, Bool, true, false, cond, not, IsTrue, List, [], ◌∷◌, ◌++◌, length, refl, sym}
use Rattle.std.proofs.Common.{ap, ◌∙◌, subst, inl, inr, arith, eqb-true, eq-eqb, ltb-true, lt-ltb}
use Rattle.std.proofs.lemmas.Bool.{false≢true}
use Rattle.swap_base.specs.Lists.{IsElement, greatest}
use Rattle.swap_base.proofs.Lists.{and_parts, and_both, greatest-in, greatest-below, in_range}
use Rattle.swap_digraph.specs.declared.arc_ends.ArcEnds.{ArcEnds}
use Rattle.swap_digraph.specs.Value.{Graph}
use Rattle.swap_digraph.specs.Graph.{parties, is_path, has_arc, is_listed, last_is, are_followers, IsFeedback, IsHeight}
use Rattle.leader_check.specs.Followers.{is_follower}
use Rattle.leader_check.specs.Levels.{greatest_prior_value, following_level, bounded_level, party_level, greatest_level, IsLevel}
use Rattle.leader_check.specs.Laws.{GreatestLevelIsHeight}
use Rattle.leader_check.proofs.Followers.{follower_parts, follower_from, parse_arc, arc_from, greatest-reached, greatest-more}
use Rattle.swap_digraph.proofs.Paths.{path_step, path_below, path_length, path_snoc, suffix_from, followers-append}

pub before-arc : (g : Graph) (f : ℕ → ℕ) (u v : ℕ) → has_arc g u v ≡ true → f u ≤ greatest_prior_value g f v
unfolding greatest_prior_value
before-arc g f u v e =
    let a = parse_arc g u v e in
    let m = greatest-in (λ b. cond (b.to == v) (f b.from) 0) g.arcs a.arc a.among in
    let k : cond (a.arc.to == v) (f a.arc.from) 0 ≡ f u = ap (λ b. cond b (f a.arc.from) 0) (eq-eqb a.arc.to v a.to) ∙ ap f a.from in
    omega (arith, m, k)

before-more : (g : Graph) (f h : ℕ → ℕ) (v : ℕ) → ((u : ℕ) → f u ≤ h u) → greatest_prior_value g f v ≤ greatest_prior_value g h v
unfolding greatest_prior_value
before-more g f h v le = greatest-more (λ b. cond (b.to == v) (f b.from) 0) (λ b. cond (b.to == v) (h b.from) 0) g.arcs (λ a. go (a.to == v) a.from)
  where
    go : (b : Bool) (u : ℕ) → cond b (f u) 0 ≤ cond b (h u) 0
    go true u = le u
    go false u = omega arith

-- the greatest value before v is that of some vertex, where it is not 0
before-reached : (g : Graph) (f : ℕ → ℕ) (v : ℕ) → (greatest_prior_value g f v ≡ 0) ⊎ ((u : ℕ) × (has_arc g u v ≡ true) × (f u ≡ greatest_prior_value g f v))
unfolding greatest_prior_value
before-reached g f v = go (greatest-reached (λ b. cond (b.to == v) (f b.from) 0) g.arcs)
  where
    by_test : (a : ArcEnds) (b : Bool) (m : ℕ) → IsElement a g.arcs → (a.to == v) ≡ b → cond b (f a.from) 0 ≡ m
        → (m ≡ 0) ⊎ ((u : ℕ) × (has_arc g u v ≡ true) × (f u ≡ m))
    by_test a true m i t e = inr (a.from, arc_from g a a.from v i refl (eqb-true a.to v t), e)
    by_test a false m i t e = inl (sym e)

    go : (greatest (λ b. cond (b.to == v) (f b.from) 0) g.arcs ≡ 0)
        ⊎ ((a : ArcEnds) × IsElement a g.arcs × (cond (a.to == v) (f a.from) 0 ≡ greatest (λ b. cond (b.to == v) (f b.from) 0) g.arcs))
        → (greatest (λ b. cond (b.to == v) (f b.from) 0) g.arcs ≡ 0)
        ⊎ ((u : ℕ) × (has_arc g u v ≡ true) × (f u ≡ greatest (λ b. cond (b.to == v) (f b.from) 0) g.arcs))
    go (inl z) = inl z
    go (inr a) = by_test a.0 (a.0.to == v) (greatest (λ b. cond (b.to == v) (f b.from) 0) g.arcs) a.1 refl a.2

pub after-follower : (g : Graph) (ls : List ℕ) (f : ℕ → ℕ) (v : ℕ) → is_follower g ls v ≡ true → following_level g ls f v ≡ greatest_prior_value g f v + 1
unfolding following_level
after-follower g ls f v e = ap (λ b. cond b (greatest_prior_value g f v + 1) 0) e

pub after-other : (g : Graph) (ls : List ℕ) (f : ℕ → ℕ) (v : ℕ) → is_follower g ls v ≡ false → following_level g ls f v ≡ 0
unfolding following_level
after-other g ls f v e = ap (λ b. cond b (greatest_prior_value g f v + 1) 0) e

after-more : (g : Graph) (ls : List ℕ) (f h : ℕ → ℕ) (v : ℕ) → ((u : ℕ) → f u ≤ h u) → following_level g ls f v ≤ following_level g ls h v
unfolding following_level
after-more g ls f h v le = go (is_follower g ls v) (before-more g f h v le)
  where
    go : (b : Bool) → greatest_prior_value g f v ≤ greatest_prior_value g h v → cond b (greatest_prior_value g f v + 1) 0 ≤ cond b (greatest_prior_value g h v + 1) 0
    go true k = omega arith
    go false k = omega arith

pub within-suc : (g : Graph) (ls : List ℕ) (k v : ℕ) → bounded_level g ls (suc k) v ≡ following_level g ls (bounded_level g ls k) v
unfolding bounded_level
within-suc g ls k v = refl

within-more : (g : Graph) (ls : List ℕ) (k v : ℕ) → bounded_level g ls k v ≤ bounded_level g ls (suc k) v
unfolding bounded_level
within-more g ls zero v = omega arith
within-more g ls (suc k) v = after-more g ls (bounded_level g ls k) (bounded_level g ls (suc k)) v (within-more g ls k)

le_split : (k m : ℕ) → k ≤ suc m → (k ≤ m) ⊎ (k ≡ suc m)
le_split k m h = grind arith

within-grows : (g : Graph) (ls : List ℕ) (k m v : ℕ) → k ≤ m → bounded_level g ls k v ≤ bounded_level g ls m v
within-grows g ls k zero v h = let e : k ≡ 0 = omega arith in rw e (omega arith)
within-grows g ls k (suc m) v h = go (le_split k m h) (within-grows g ls k m v)
  where
    go : (k ≤ m) ⊎ (k ≡ suc m) → (k ≤ m → bounded_level g ls k v ≤ bounded_level g ls m v) → bounded_level g ls k v ≤ bounded_level g ls (suc m) v
    go (inl l) below = let a = below l in let b = within-more g ls m v in omega (arith, a, b)
    go (inr e) below = rw e (omega arith)

pub before-below : (g : Graph) (f : ℕ → ℕ) (v m : ℕ) → ((u : ℕ) → f u ≤ m) → greatest_prior_value g f v ≤ m
unfolding greatest_prior_value
before-below g f v m le = greatest-below (λ b. cond (b.to == v) (f b.from) 0) g.arcs m (λ a i. go (a.to == v) a.from)
  where
    go : (b : Bool) (u : ℕ) → cond b (f u) 0 ≤ m
    go true u = le u
    go false u = omega arith

after-below : (g : Graph) (ls : List ℕ) (f : ℕ → ℕ) (v m : ℕ) → ((u : ℕ) → f u ≤ m) → following_level g ls f v ≤ suc m
unfolding following_level
after-below g ls f v m le = go (is_follower g ls v) (before-below g f v m le)
  where
    go : (b : Bool) → greatest_prior_value g f v ≤ m → cond b (greatest_prior_value g f v + 1) 0 ≤ suc m
    go true k = omega arith
    go false k = omega arith

pub within-below : (g : Graph) (ls : List ℕ) (k v : ℕ) → bounded_level g ls k v ≤ k
unfolding bounded_level
within-below g ls zero v = omega arith
within-below g ls (suc k) v = after-below g ls (bounded_level g ls k) v k (within-below g ls k)

-- along a path of followers the level rises
rises : (g : Graph) (ls : List ℕ) (u : ℕ) (q : List ℕ) (v m t : ℕ) → is_path g (u ∷ q) ≡ true → last_is v (u ∷ q) ≡ true
    → are_followers ls (u ∷ q) ≡ true → t ≡ m + length q → bounded_level g ls m u + length q ≤ bounded_level g ls t v
rises g ls u [] v m t e last o s =
    let a : t ≡ m = omega arith in
    let b : u ≡ v = eqb-true u v last in
    rw (a, b) (omega arith)
rises g ls u (w ∷ q) v m t e last o s =
    let p = path_step g u w q e in
    let k = and_parts (not (is_listed u ls)) (are_followers ls (w ∷ q)) o in
    let l = and_parts (not (is_listed w ls)) (are_followers ls q) k.1 in
    let r = rises g ls w q v (suc m) t p.rest last k.1 (omega arith) in
    let follows = follower_from g ls w (path_below g (w ∷ q) w p.rest (inl refl)) l.0 in
    let x : bounded_level g ls (suc m) w ≡ greatest_prior_value g (bounded_level g ls m) w + 1 =
    within-suc g ls m w ∙ after-follower g ls (bounded_level g ls m) w follows in
    let y = before-arc g (bounded_level g ls m) u w p.arc in
    omega (arith, r, x, y)

pub level-most : (g : Graph) (ls : List ℕ) (v : ℕ) (p : List ℕ) → is_path g p ≡ true → last_is v p ≡ true → are_followers ls p ≡ true
    → length p ≤ party_level g ls v
unfolding party_level
level-most g ls v [] e last o = absurd (cc e)
level-most g ls v (u ∷ q) e last o =
    let k = and_parts (not (is_listed u ls)) (are_followers ls q) o in
    let follows = follower_from g ls u (path_below g (u ∷ q) u e (inl refl)) k.0 in
    let x : bounded_level g ls 1 u ≡ greatest_prior_value g (bounded_level g ls 0) u + 1 = within-suc g ls 0 u ∙ after-follower g ls (bounded_level g ls 0) u follows in
    let r = rises g ls u q v 1 (1 + length q) e last o refl in
    let n = path_length g (u ∷ q) e in
    let m = within-grows g ls (1 + length q) g.n v (omega arith) in
    omega (arith, x, r, m)

module _ (g : Graph) (ls : List ℕ) (feedback : IsFeedback g ls) where
  -- a path of k followers that ends in v
  pub record Run (v k : ℕ) : Type 0 where
    pub run : List ℕ
    pub path : is_path g run ≡ true
    pub last : last_is v run ≡ true
    pub followers : are_followers ls run ≡ true
    pub size : length run ≡ k

  length-push : (p : List ℕ) (v : ℕ) → length (p ++ v ∷ []) ≡ length p + 1
  length-push [] v = omega arith
  length-push (x ∷ p) v = let k = length-push p v in omega arith

  alone : (v : ℕ) → is_follower g ls v ≡ true → Run v 1
  alone v e =
      let k = follower_parts g ls v e in
      record { run = v ∷ []; path = lt-ltb v g.n k.0; last = eq-eqb v v refl; followers = and_both (not (is_listed v ls)) true k.1 refl; size = omega arith }

  further : (u v k : ℕ) → is_follower g ls v ≡ true → has_arc g u v ≡ true → Run u k → Run v (k + 1)
  further u v k e a r =
      let f = follower_parts g ls v e in
      let fresh : IsElement v r.run → ⊥ = λ i.
      let s = suffix_from g ls r.run v u r.path r.last r.followers i in
      false≢true (sym (feedback v u s.part s.between s.followers) ∙ a) in
      let p = path_snoc g r.run u v r.path r.last a f.0 fresh in
      let z = r.size in
      let q = length-push r.run v in
      record {
        run = r.run ++ v ∷ [];
        path = p.0;
        last = p.1;
        followers = followers-append ls r.run v r.followers (no_not (is_listed v ls) f.1);
        size =
            omega arith;
      }
    where
      no_not : (b : Bool) → not b ≡ true → b ≡ false
      no_not true h = absurd (cc h)
      no_not false h = refl

  pub within-reached : (k v : ℕ) → (bounded_level g ls k v ≡ 0) ⊎ Run v (bounded_level g ls k v)
  unfolding bounded_level
  within-reached zero v = inl refl
  within-reached (suc k) v = go (within-reached k) (is_follower g ls v) refl
    where
      by_before : ((u : ℕ) → (bounded_level g ls k u ≡ 0) ⊎ Run u (bounded_level g ls k u)) → is_follower g ls v ≡ true
          → (greatest_prior_value g (bounded_level g ls k) v ≡ 0) ⊎ ((u : ℕ) × (has_arc g u v ≡ true)
          × (bounded_level g ls k u ≡ greatest_prior_value g (bounded_level g ls k) v)) → Run v (greatest_prior_value g (bounded_level g ls k) v + 1)
      by_before rest e (inl z) = rw z (alone v e)
      by_before rest e (inr r) = by_run r.0 r.1 r.2 (rest r.0)
        where
          by_run : (u : ℕ) → has_arc g u v ≡ true → bounded_level g ls k u ≡ greatest_prior_value g (bounded_level g ls k) v
              → (bounded_level g ls k u ≡ 0) ⊎ Run u (bounded_level g ls k u) → Run v (greatest_prior_value g (bounded_level g ls k) v + 1)
          by_run u a s (inl z) = let y : greatest_prior_value g (bounded_level g ls k) v ≡ 0 = sym s ∙ z in rw y (alone v e)
          by_run u a s (inr q) = further u v (greatest_prior_value g (bounded_level g ls k) v) e a (subst (Run u) s q)

      go : ((u : ℕ) → (bounded_level g ls k u ≡ 0) ⊎ Run u (bounded_level g ls k u)) → (b : Bool) → is_follower g ls v ≡ b
          → (following_level g ls (bounded_level g ls k) v ≡ 0) ⊎ Run v (following_level g ls (bounded_level g ls k) v)
      go rest true e = inr (rw (after-follower g ls (bounded_level g ls k) v e) (by_before rest e (before-reached g (bounded_level g ls k) v)))
      go rest false e = inl (after-other g ls (bounded_level g ls k) v e)

  level-reached : (v : ℕ) → (party_level g ls v ≡ 0) ⊎ Run v (party_level g ls v)
  unfolding party_level
  level-reached v = within-reached g.n v

  pub is_level : (v : ℕ) → IsLevel g ls v (party_level g ls v)
  is_level v = record { reached = go (level-reached v); most = level-most g ls v }
    where
      go : (party_level g ls v ≡ 0) ⊎ Run v (party_level g ls v) → (party_level g ls v ≡ 0)
          ⊎ ((p : List ℕ) × IsTrue (is_path g p) × IsTrue (last_is v p) × IsTrue (are_followers ls p) × (length p ≡ party_level g ls v))
      go (inl z) = inl z
      go (inr r) = inr (r.run, r.path, r.last, r.followers, r.size)

  last_run : (u : ℕ) (p : List ℕ) → is_path g (u ∷ p) ≡ true → (v : ℕ) × (last_is v (u ∷ p) ≡ true) × (v < g.n)
  last_run u [] e = (u, eq-eqb u u refl, ltb-true u g.n e)
  last_run u (w ∷ p) e = let s = path_step g u w p e in last_run w p s.rest

  height-most : (p : List ℕ) → is_path g p ≡ true → are_followers ls p ≡ true → length p ≤ greatest_level g ls
  unfolding greatest_level
  height-most [] e o = absurd (cc e)
  height-most (u ∷ p) e o =
      let l = last_run u p e in
      let a = level-most g ls l.0 (u ∷ p) e l.1 o in
      let b = greatest-in (party_level g ls) (parties g) l.0 (in_range l.0 g.n l.2) in
      omega (arith, a, b)

  height-reached : (greatest_level g ls ≡ 0) ⊎ ((p : List ℕ) × IsTrue (is_path g p) × IsTrue (are_followers ls p) × (length p ≡ greatest_level g ls))
  unfolding greatest_level
  height-reached = go (greatest-reached (party_level g ls) (parties g))
    where
      by_run : (v h : ℕ) → party_level g ls v ≡ h → (party_level g ls v ≡ 0) ⊎ Run v (party_level g ls v)
          → (h ≡ 0) ⊎ ((p : List ℕ) × IsTrue (is_path g p) × IsTrue (are_followers ls p) × (length p ≡ h))
      by_run v h e (inl z) = inl (sym e ∙ z)
      by_run v h e (inr r) = inr (r.run, r.path, r.followers, r.size ∙ e)

      go : (greatest (party_level g ls) (parties g) ≡ 0) ⊎ ((v : ℕ) × IsElement v (parties g) × (party_level g ls v ≡ greatest (party_level g ls) (parties g)))
          → (greatest (party_level g ls) (parties g) ≡ 0) ⊎ ((p : List ℕ) × IsTrue (is_path g p) × IsTrue (are_followers ls p)
          × (length p ≡ greatest (party_level g ls) (parties g)))
      go (inl z) = inl z
      go (inr r) = by_run r.0 (greatest (party_level g ls) (parties g)) r.2 (level-reached r.0)

  pub is_height : IsHeight g ls (greatest_level g ls)
  is_height = record { reached = height-reached; most = height-most }

pub greatest_level_is_height : GreatestLevelIsHeight
greatest_level_is_height g ls feedback = is_height g ls feedback
