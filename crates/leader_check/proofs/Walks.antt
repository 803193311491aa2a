-- Walks of followers, and the cycles that they close to.
use Rattle.std.proofs.Common.{◌≡◌, ◌⊎◌, ℕ, suc, zero, ◌+◌, ◌<◌, ◌≤◌, ◌==◌, Bool, true, false, not, ◌&&◌, List, [], ◌∷◌, length, Option, Some, None}
use Rattle.std.proofs.Common.{is_some, unwrap_or, refl, sym, ap, ◌∙◌, subst, inl, inr, arith, eqb-true, eq-eqb, lt-ltb}
use Rattle.std.specs.List.{list_any, range_with_len}
use Rattle.swap_base.specs.Lists.{or_else, first_given_answer, IsElement}
use Rattle.swap_base.proofs.Lists.{and_parts, and_both, any_at, list_any-in, in_from_moment, in_range, in_range_from, first_at, first_given_answer-in}
use Rattle.swap_base.proofs.Lists.{none_in, below_or}
use Rattle.swap_digraph.specs.Value.{Graph}
use Rattle.swap_digraph.specs.Graph.{parties, is_path, has_arc, is_listed, first_is, last_is, are_followers, IsConnectingPath, IsFeedback}
use Rattle.leader_check.specs.Followers.{is_follower}
use Rattle.leader_check.specs.Cycles.{only_if, enters_led, first_step, walks, least_walk, shortest_cycle, traced_cycle, follower_cycle, IsFollowerCycle}
use Rattle.leader_check.specs.Cycles.{IsShortestFollowerCycle}
use Rattle.leader_check.specs.Laws.{NoCycleIsFeedback}
use Rattle.leader_check.proofs.Followers.{follower_parts, follower_from, parse_arc, arc_from}
use Rattle.swap_digraph.proofs.Paths.{path_step, path_more, path_below, path_length, some_length}

-- The first answer along a range.

pub record FirstIn {B : Type 0} (f : ℕ → Option B) (a m : ℕ) (y : B) : Type 0 where
  pub now : ℕ
  pub from : a ≤ now
  pub to : now < a + m
  pub gives : f now ≡ Some y
  pub below : (j : ℕ) → a ≤ j → j < now → f j ≡ None

at_or_after : (a j : ℕ) → a ≤ j → (j ≡ a) ⊎ (a + 1 ≤ j)
at_or_after a j h = grind arith

first_in_head : {B : Type 0} (f : ℕ → Option B) (a m : ℕ) (y : B) (o : Option B) → f a ≡ o → or_else o (first_given_answer f (range_with_len (a + 1) m)) ≡ Some y
    → (first_given_answer f (range_with_len (a + 1) m) ≡ Some y → FirstIn f (a + 1) m y) → FirstIn f a (suc m) y
first_in_head f a m y None h e rest =
    let r = rest e in
    let l = r.from in
    let t = r.to in
    record {
      now = r.now;
      from = omega arith;
      to = omega arith;
      gives = r.gives;
      below = λ j from to. elim (at_or_after a j from) [ inl s ↦ ap f s ∙ h | inr s ↦ r.below j s to ];
    }
first_in_head f a m y (Some z) h e rest = record { now = a; from = omega arith; to = omega arith; gives = h ∙ e; below = λ j from to. absurd (omega arith) }

pub first_in : {B : Type 0} (f : ℕ → Option B) (a m : ℕ) (y : B) → first_given_answer f (range_with_len a m) ≡ Some y → FirstIn f a m y
first_in f a zero y e = absurd (cc e)
first_in f a (suc m) y e = first_in_head f a m y (f a) refl e (first_in f (a + 1) m y)

pub only_if-some : {A : Type 0} (b : Bool) (x y : A) → only_if b x ≡ Some y → (b ≡ true) × (x ≡ y)
only_if-some true x y e = (refl, cc e)
only_if-some false x y e = absurd (cc e)

not_both : {A : Type 0} (b : Bool) (x : A) → b ≡ true → only_if b x ≡ None → ⊥
not_both true x h e = cc e
not_both false x h e = cc h

module _ (g : Graph) (ls : List ℕ) where
  -- Steps of a walk.

  pub walks-zero : (v u : ℕ) → walks g ls v zero u ≡ true → (is_follower g ls u ≡ true) × (u ≡ v)
  unfolding walks
  walks-zero v u e = let k = and_parts (is_follower g ls u) (u == v) e in (k.0, eqb-true u v k.1)

  pub walks-none : (v : ℕ) → is_follower g ls v ≡ true → walks g ls v zero v ≡ true
  unfolding walks
  walks-none v e = and_both (is_follower g ls v) (v == v) e (eq-eqb v v refl)

  pub record Onward (v k u : ℕ) : Type 0 where
    pub follows : is_follower g ls u ≡ true
    pub next : ℕ
    pub arc : has_arc g u next ≡ true
    pub rest : walks g ls v k next ≡ true

  pub walks-suc : (v k u : ℕ) → walks g ls v (suc k) u ≡ true → Onward v k u
  unfolding walks enters_led
  walks-suc v k u e =
      let p = and_parts (is_follower g ls u) (list_any (λ a. (a.from == u) && walks g ls v k a.to) g.arcs) e in
      let m = any_at (λ a. (a.from == u) && walks g ls v k a.to) g.arcs p.1 in
      let q = and_parts (m.now.from == u) (walks g ls v k m.now.to) m.passes in
      record {
        follows = p.0;
        next = m.now.to;
        arc =
            arc_from g m.now u m.now.to (subst (λ xs. IsElement m.now xs) (sym m.stands.1) (in_from_moment m.past m.now m.stands.0))
            (eqb-true m.now.from u q.0) refl;
        rest = q.1;
      }

  pub walks-step : (v k u w : ℕ) → is_follower g ls u ≡ true → has_arc g u w ≡ true → walks g ls v k w ≡ true → walks g ls v (suc k) u ≡ true
  unfolding walks enters_led
  walks-step v k u w f e r =
      let a = parse_arc g u w e in
      and_both (is_follower g ls u) (list_any (λ b. (b.from == u) && walks g ls v k b.to) g.arcs) f
      (list_any-in (λ b. (b.from == u) && walks g ls v k b.to) g.arcs a.arc
      (and_both (a.arc.from == u) (walks g ls v k a.arc.to) (eq-eqb a.arc.from u a.from) (ap (walks g ls v k) a.to ∙ r)) a.among)

  pub walks-follower : (v k u : ℕ) → walks g ls v k u ≡ true → is_follower g ls u ≡ true
  walks-follower v zero u e = (walks-zero v u e).0
  walks-follower v (suc k) u e = (walks-suc v k u e).follows

  -- two walks, one after the other
  walks-join : (w v j m t u : ℕ) → t ≡ j + m → walks g ls w j u ≡ true → walks g ls v m w ≡ true → walks g ls v t u ≡ true
  walks-join w v zero m t u s e r =
      let q : t ≡ m = omega arith in
      rw (q, (walks-zero w u e).1) r
  walks-join w v (suc j) m t u s e r =
      let o = walks-suc w j u e in
      let q : t ≡ suc (j + m) = omega arith in
      rw q (walks-step v (j + m) u o.next o.follows o.arc (walks-join w v j m (j + m) o.next refl o.rest r))

  -- The least next step.

  pub record Least (f : ℕ → Bool) (u s : ℕ) : Type 0 where
    pub arc : has_arc g u s ≡ true
    pub holds : f s ≡ true

  least_number : (f : ℕ → Bool) (u : ℕ) (o : Option ℕ) → first_given_answer (λ w. only_if (has_arc g u w && f w) w) (parties g) ≡ o → is_some o ≡ true
      → Least f u (unwrap_or o 0)
  least_number f u None e s = absurd (cc s)
  least_number f u (Some y) e s =
      let m = first_at (λ w. only_if (has_arc g u w && f w) w) (parties g) y e in
      let k = only_if-some (has_arc g u m.now && f m.now) m.now y m.gives in
      let p = and_parts (has_arc g u m.now) (f m.now) k.0 in
      record { arc = ap (has_arc g u) (sym k.1) ∙ p.0; holds = ap f (sym k.1) ∙ p.1 }

  first_step-is : (f : ℕ → Bool) (u w : ℕ) → w < g.n → has_arc g u w ≡ true → f w ≡ true → Least f u (first_step g f u)
  unfolding first_step
  first_step-is f u w b a h =
      least_number f u (first_given_answer (λ x. only_if (has_arc g u x && f x) x) (parties g)) refl
      (first_given_answer-in (λ x. only_if (has_arc g u x && f x) x) (parties g) w w (in_range w g.n b) (ap (λ t. only_if t w) (and_both (has_arc g u w) (f w) a h)))

  onward : (v k u : ℕ) → walks g ls v (suc k) u ≡ true → Least (walks g ls v k) u (first_step g (walks g ls v k) u)
  onward v k u e =
      let o = walks-suc v k u e in
      first_step-is (walks g ls v k) u o.next (follower_parts g ls o.next (walks-follower v k o.next o.rest)).0 o.arc o.rest

  -- A vertex of a walk lies between its ends.

  pub record Between (v u x k : ℕ) : Type 0 where
    pub before : ℕ
    pub after : ℕ
    pub sum : before + after ≡ k
    pub some : 1 ≤ after
    pub to : walks g ls x before u ≡ true
    pub on : walks g ls v after x ≡ true

  member : (v k u x : ℕ) → walks g ls v k u ≡ true → IsElement x (least_walk g (walks g ls v) k u) → Between v u x k
  unfolding least_walk
  member v zero u x e i = absurd i
  member v (suc k) u x e (inl q) = record {
    before = 0;
    after = suc k;
    sum = omega arith;
    some = omega arith;
    to = rw q (walks-none u (walks-follower v (suc k) u e));
    on = rw q e;
  }
  member v (suc k) u x e (inr i) =
      let l = onward v k u e in
      let b = member v k (first_step g (walks g ls v k) u) x l.holds i in
      let s = b.sum in
      record {
        before = suc b.before;
        after = b.after;
        sum = omega arith;
        some = b.some;
        to = walks-step x b.before u (first_step g (walks g ls v k) u) (walks-follower v (suc k) u e) l.arc b.to;
        on = b.on;
      }

  -- A walk that no shorter one replaces visits no vertex twice.

  pub record Chain (v u : ℕ) (p : List ℕ) : Type 0 where
    pub path : is_path g p ≡ true
    pub first : first_is u p ≡ true
    pub end : ℕ
    pub last : last_is end p ≡ true
    pub closes : has_arc g end v ≡ true
    pub followers : are_followers ls p ≡ true

  abbrev Shortest : ℕ → ℕ → ℕ → Type 0
  Shortest v k u = (j : ℕ) → 1 ≤ j → j < k → walks g ls v j u ≡ true → ⊥

  chain : (v k u : ℕ) → walks g ls v (suc k) u ≡ true → Shortest v (suc k) u → Chain v u (least_walk g (walks g ls v) (suc k) u)
  unfolding least_walk
  chain v zero u e short =
      let o = walks-suc v zero u e in
      let f = follower_parts g ls u o.follows in
      record {
        path = lt-ltb u g.n f.0;
        first = eq-eqb u u refl;
        end = u;
        last = eq-eqb u u refl;
        closes = ap (has_arc g u) (sym (walks-zero v o.next o.rest).1) ∙ o.arc;
        followers = and_both (not (is_listed u ls)) true f.1 refl;
      }
  chain v (suc k) u e short =
      let l = onward v (suc k) u e in
      let follows = walks-follower v (suc (suc k)) u e in
      let f = follower_parts g ls u follows in
      let s = first_step g (walks g ls v (suc k)) u in
      let c = chain v k s l.holds (λ j low below w. short (suc j) (omega arith) (omega arith) (walks-step v j u s follows l.arc w)) in
      let fresh : IsElement u (least_walk g (walks g ls v) (suc k) s) → ⊥ = λ i.
      let b = member v (suc k) s u l.holds i in
      let q = b.sum in
      short b.after b.some (omega arith) b.on in
      record {
        path = path_more g u s (least_walk g (walks g ls v) k (first_step g (walks g ls v k) s)) f.0 fresh l.arc c.path;
        first = eq-eqb u u refl;
        end = c.end;
        last = c.last;
        closes = c.closes;
        followers = and_both (not (is_listed u ls)) (are_followers ls (least_walk g (walks g ls v) (suc k) s)) f.1 c.followers;
      }

  -- The cycle that is shown.

  -- a shortest closed walk from v
  pub record Closed (v : ℕ) (c : List ℕ) : Type 0 where
    pub size : ℕ
    pub low : 1 ≤ size
    pub high : size ≤ g.n
    pub walk : walks g ls v size v ≡ true
    pub is : least_walk g (walks g ls v) size v ≡ c
    pub shortest : Shortest v size v

  pub closed_from : (v : ℕ) (c : List ℕ) → traced_cycle g ls v ≡ Some c → Closed v c
  unfolding traced_cycle
  closed_from v c e =
      let m = first_in (shortest_cycle g ls v) 1 g.n c e in
      let k = only_if-some (walks g ls v m.now v) (least_walk g (walks g ls v) m.now v) c m.gives in
      let t = m.to in
      record {
        size = m.now;
        low = m.from;
        high = omega arith;
        walk = k.0;
        is = k.1;
        shortest =
            λ j low below w. not_both (walks g ls v j v) (least_walk g (walks g ls v) j v) w (m.below j low below);
      }

  -- a closed walk from v is found
  walk_found : (v k : ℕ) → 1 ≤ k → k ≤ g.n → walks g ls v k v ≡ true → traced_cycle g ls v ≡ None → ⊥
  unfolding traced_cycle
  walk_found v k low high w e =
      not_both (walks g ls v k v) (least_walk g (walks g ls v) k v) w
      (none_in (shortest_cycle g ls v) (range_with_len 1 g.n) k e (in_range_from 1 k g.n low (omega arith)))

  least_first : (v : ℕ) (c : List ℕ) → ((j : ℕ) → 0 ≤ j → j < v → traced_cycle g ls j ≡ None) → Closed v c → (x : ℕ) → IsElement x c → v ≤ x
  least_first v c none k x i = go (below_or x v)
    where
      go : (x < v) ⊎ (v ≤ x) → v ≤ x
      go (inr h) = h
      go (inl h) =
          let b = member v k.size v x k.walk (subst (λ p. IsElement x p) (sym k.is) i) in
          let s = b.sum in
          absurd (walk_found x k.size k.low k.high (walks-join v x b.after b.before k.size x (omega arith) b.on b.to) (none x (omega arith) h))

  cycle_by_size : (v m : ℕ) (c : List ℕ) → ((j : ℕ) → 0 ≤ j → j < v → traced_cycle g ls j ≡ None) → (k : Closed v c) → k.size ≡ m → IsFollowerCycle g ls c
  cycle_by_size v zero c none k s = let l = k.low in absurd (omega arith)
  cycle_by_size v (suc m) c none k s =
      let r = chain v m v (ap (λ j. walks g ls v j v) (sym s) ∙ k.walk) (λ j low below. k.shortest j low (omega arith)) in
      let e : least_walk g (walks g ls v) (suc m) v ≡ c = ap (λ j. least_walk g (walks g ls v) j v) (sym s) ∙ k.is in
      let h : Chain v v c = subst (Chain v v) e r in
      record { first = v; last = h.end; path = (h.path, h.first, h.last); followers = h.followers; closes = h.closes; least = least_first v c none k }

  pub cycle_is : (c : List ℕ) → follower_cycle g ls ≡ Some c → IsFollowerCycle g ls c
  unfolding follower_cycle
  cycle_is c e =
      let m = first_in (traced_cycle g ls) 0 g.n c e in
      let k = closed_from m.now c m.gives in
      cycle_by_size m.now k.size c m.below k refl

  pub cycle_no_feedback : (c : List ℕ) → IsFollowerCycle g ls c → IsFeedback g ls → ⊥
  cycle_no_feedback c k feedback = false_true (has_arc g k.last k.first) (feedback k.first k.last c k.path k.followers) k.closes
    where
      false_true : (b : Bool) → b ≡ false → b ≡ true → ⊥
      false_true true e h = cc e
      false_true false e h = cc h

  -- a path of followers is a walk
  path_walks : (u : ℕ) (q : List ℕ) (v t : ℕ) → is_path g (u ∷ q) ≡ true → last_is v (u ∷ q) ≡ true → are_followers ls (u ∷ q) ≡ true
      → has_arc g v t ≡ true → is_follower g ls t ≡ true → walks g ls t (suc (length q)) u ≡ true
  path_walks u [] v t e last o a f =
      let k = and_parts (not (is_listed u ls)) true o in
      let same : u ≡ v = eqb-true u v last in
      walks-step t 0 u t (follower_from g ls u (path_below g (u ∷ []) u e (inl refl)) k.0) (ap (λ x. has_arc g x t) same ∙ a) (walks-none t f)
  path_walks u (w ∷ q) v t e last o a f =
      let s = path_step g u w q e in
      let k = and_parts (not (is_listed u ls)) (are_followers ls (w ∷ q)) o in
      walks-step t (suc (length q)) u w (follower_from g ls u s.below k.0) s.arc (path_walks w q v t s.rest last k.1 a f)

  no_arc_back : (u v : ℕ) (p : List ℕ) → follower_cycle g ls ≡ None → IsConnectingPath g u v p → are_followers ls p ≡ true → has_arc g v u ≡ true → ⊥
  unfolding follower_cycle
  no_arc_back u v [] none b o a = cc b.0
  no_arc_back u v (x ∷ q) none b o a =
      let same : x ≡ u = eqb-true x u b.1 in
      let k = and_parts (not (is_listed x ls)) (are_followers ls q) o in
      let below = path_below g (x ∷ q) x b.0 (inl refl) in
      let w = path_walks x q v x b.0 b.2 o (ap (has_arc g v) same ∙ a) (follower_from g ls x below k.0) in
      let n = path_length g (x ∷ q) b.0 in
      walk_found x (suc (length q)) (omega arith) (omega arith) w (none_in (traced_cycle g ls) (parties g) x none (in_range x g.n below))

  pub none_feedback : follower_cycle g ls ≡ None → IsFeedback g ls
  none_feedback none u v p b o = by_test (has_arc g v u) (no_arc_back u v p none b o)
    where
      by_test : (t : Bool) → (t ≡ true → ⊥) → t ≡ false
      by_test true h = absurd (h refl)
      by_test false h = refl

  pub feedback_none : IsFeedback g ls → follower_cycle g ls ≡ None
  feedback_none feedback = by_option (follower_cycle g ls) (λ c e. cycle_no_feedback c (cycle_is c e) feedback)
    where
      by_option : (o : Option (List ℕ)) → ((c : List ℕ) → o ≡ Some c → ⊥) → o ≡ None
      by_option None h = refl
      by_option (Some c) h = absurd (h c refl)

  -- A cycle through a given vertex.

  walk_length : (f : ℕ → ℕ → Bool) (k u : ℕ) → length (least_walk g f k u) ≡ k
  unfolding least_walk
  walk_length f zero u = refl
  walk_length f (suc k) u = ap (λ (n : ℕ). suc n) (walk_length f k (first_step g (f k) u))

  cycle_walks : (v end : ℕ) (p : List ℕ) → IsConnectingPath g v end p → are_followers ls p ≡ true → has_arc g end v ≡ true → walks g ls v (length p) v ≡ true
  cycle_walks v end [] b o a = absurd (cc b.0)
  cycle_walks v end (x ∷ q) b o a =
      let same : x ≡ v = eqb-true x v b.1 in
      let k = and_parts (not (is_listed x ls)) (are_followers ls q) o in
      let below = path_below g (x ∷ q) x b.0 (inl refl) in
      subst (λ (y : ℕ). walks g ls y (suc (length q)) y ≡ true) same
      (path_walks x q end x b.0 b.2 o (ap (has_arc g end) same ∙ a) (follower_from g ls x below k.0))

  through_by_size : (v m : ℕ) (c : List ℕ) → (k : Closed v c) → k.size ≡ m → IsShortestFollowerCycle g ls v c
  through_by_size v zero c k s = let l = k.low in absurd (omega arith)
  through_by_size v (suc m) c k s =
      let r = chain v m v (ap (λ j. walks g ls v j v) (sym s) ∙ k.walk) (λ j low below. k.shortest j low (omega arith)) in
      let e : least_walk g (walks g ls v) (suc m) v ≡ c = ap (λ j. least_walk g (walks g ls v) j v) (sym s) ∙ k.is in
      let h : Chain v v c = subst (Chain v v) e r in
      let long : length c ≡ k.size = ap length (sym k.is) ∙ walk_length (walks g ls v) k.size v in
      record {
        last = h.end;
        path = (h.path, h.first, h.last);
        followers = h.followers;
        closes = h.closes;
        shortest = λ other end b o a. no_shorter other end long b o a (below_or (length other) k.size);
      }
    where
      no_shorter : (other : List ℕ) (end : ℕ) → length c ≡ k.size → IsConnectingPath g v end other → are_followers ls other ≡ true → has_arc g end v ≡ true
          → (length other < k.size) ⊎ (k.size ≤ length other) → length c ≤ length other
      no_shorter other end long b o a (inl lt) = absurd (k.shortest (length other) (some_length g other b.0) lt (cycle_walks v end other b o a))
      no_shorter other end long b o a (inr le) = omega (arith, le, long)

  pub through : (v : ℕ) (c : List ℕ) → traced_cycle g ls v ≡ Some c → IsShortestFollowerCycle g ls v c
  through v c e = let k = closed_from v c e in through_by_size v k.size c k refl

  pub none_through : (v end : ℕ) (p : List ℕ) → traced_cycle g ls v ≡ None → IsConnectingPath g v end p → are_followers ls p ≡ true → has_arc g end v ≡ true → ⊥
  none_through v end p none b o a = walk_found v (length p) (some_length g p b.0) (path_length g p b.0) (cycle_walks v end p b o a) none

  -- A cycle that meets a vertex goes through it: from its first vertex on to v, and from v on to
  -- its end.
  record Meets (v u w : ℕ) (size : ℕ) : Type 0 where
    pub before : ℕ
    pub after : List ℕ
    pub to : walks g ls v before u ≡ true
    pub on : is_path g (v ∷ after) ≡ true
    pub last : last_is w (v ∷ after) ≡ true
    pub followers : are_followers ls (v ∷ after) ≡ true
    pub sum : before + suc (length after) ≡ size

  meets : (v u w : ℕ) (q : List ℕ) → is_path g (u ∷ q) ≡ true → last_is w (u ∷ q) ≡ true → are_followers ls (u ∷ q) ≡ true → IsElement v (u ∷ q)
      → Meets v u w (suc (length q))
  meets v u w q e last o (inl s) =
      let k = and_parts (not (is_listed u ls)) (are_followers ls q) o in
      let f = follower_from g ls u (path_below g (u ∷ q) u e (inl refl)) k.0 in
      record {
        before = 0;
        after = q;
        to = subst (λ (x : ℕ). walks g ls x 0 u ≡ true) (sym s) (walks-none u f);
        on = subst (λ (x : ℕ). is_path g (x ∷ q) ≡ true) (sym s) e;
        last = subst (λ (x : ℕ). last_is w (x ∷ q) ≡ true) (sym s) last;
        followers = subst (λ (x : ℕ). are_followers ls (x ∷ q) ≡ true) (sym s) o;
        sum = omega arith;
      }
  meets v u w [] e last o (inr i) = absurd i
  meets v u w (x ∷ q) e last o (inr i) =
      let s = path_step g u x q e in
      let k = and_parts (not (is_listed u ls)) (are_followers ls (x ∷ q)) o in
      let m = meets v x w q s.rest last k.1 i in
      let l = m.sum in
      record {
        before = suc m.before;
        after = m.after;
        to = walks-step v m.before u x (follower_from g ls u s.below k.0) s.arc m.to;
        on = m.on;
        last = m.last;
        followers = m.followers;
        sum = omega (arith, l);
      }

  pub none_meets : (v u w : ℕ) (p : List ℕ) → traced_cycle g ls v ≡ None → IsConnectingPath g u w p → are_followers ls p ≡ true → has_arc g w u ≡ true
      → IsElement v p → ⊥
  none_meets v u w [] none b o a i = absurd (cc b.0)
  none_meets v u w (x ∷ q) none b o a i =
      let same : x ≡ u = eqb-true x u b.1 in
      let k = and_parts (not (is_listed x ls)) (are_followers ls q) o in
      let below = path_below g (x ∷ q) x b.0 (inl refl) in
      let m = meets v x w q b.0 b.2 o i in
      let l = m.sum in
      let n = path_length g (x ∷ q) b.0 in
      let back = path_walks v m.after w x m.on m.last m.followers (ap (has_arc g w) same ∙ a) (follower_from g ls x below k.0) in
      let round = walks-join x v (suc (length m.after)) m.before (suc (length q)) v (omega (arith, l)) back m.to in
      walk_found v (suc (length q)) (omega arith) (omega arith) round none

pub no_cycle_is_feedback : NoCycleIsFeedback
no_cycle_is_feedback g ls = (none_feedback g ls, feedback_none g ls)
