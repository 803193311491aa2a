-- A round more than there are parties raises a level above their number exactly where followers
-- form a cycle.
use Rattle.std.proofs.Common.{◌≡◌, ◌⊎◌, inl, inr, ℕ, zero, suc, ◌+◌, ◌-◌, ◌≤◌, true, nat_lt, List, Option, Some, None, is_some, refl, sym, ap, ◌∙◌}
use Rattle.std.proofs.Common.{arith, lt-ltb, le-ltb}
use Rattle.swap_base.specs.Lists.{greatest}
use Rattle.swap_base.proofs.Lists.{greatest-in, greatest-below, in_range}
use Rattle.swap_digraph.specs.Value.{Graph}
use Rattle.swap_digraph.specs.Graph.{parties, has_arc, IsFeedback}
use Rattle.leader_check.specs.Followers.{is_follower}
use Rattle.leader_check.specs.Levels.{bounded_level, greatest_prior_value}
use Rattle.leader_check.specs.Cycles.{walks, traced_cycle, follower_cycle}
use Rattle.leader_check.proofs.Followers.{follower_parts}
use Rattle.swap_digraph.proofs.Paths.{path_length}
use Rattle.leader_check.proofs.Heights.{before-arc, after-follower, within-suc, within-reached, Run}
use Rattle.leader_check.proofs.Walks as on

module _ (g : Graph) (ls : List ℕ) where
  -- the last arc of a walk
  record Last (v k u : ℕ) : Type 0 where
    last : ℕ
    arc : has_arc g last v ≡ true
    before : walks g ls last k u ≡ true

  last_arc : (v k u : ℕ) → walks g ls v (suc k) u ≡ true → Last v k u
  last_arc v zero u e =
      let o = on.walks-suc g ls v zero u e in
      record { last = u; arc = ap (has_arc g u) (sym (on.walks-zero g ls v o.next o.rest).1) ∙ o.arc; before = on.walks-none g ls u o.follows }
  last_arc v (suc k) u e =
      let o = on.walks-suc g ls v (suc k) u e in
      let l = last_arc v k o.next o.rest in
      record { last = l.last; arc = l.arc; before = on.walks-step g ls l.last k u o.next o.follows o.arc l.before }

  walk_ends_in : (v k u : ℕ) → walks g ls v k u ≡ true → is_follower g ls v ≡ true
  walk_ends_in v zero u e = let z = on.walks-zero g ls v u e in ap (is_follower g ls) (sym z.1) ∙ z.0
  walk_ends_in v (suc k) u e = walk_ends_in v k (on.walks-suc g ls v k u e).next (on.walks-suc g ls v k u e).rest

  -- on a cycle each round raises the level
  cycle_rises : (k u m : ℕ) → walks g ls u (suc m) u ≡ true → k ≤ bounded_level g ls k u
  cycle_rises zero u m e = omega arith
  cycle_rises (suc k) u m e =
      let l = last_arc u m u e in
      let r = cycle_rises k l.last m (on.walks-step g ls l.last m l.last u (walk_ends_in l.last m u l.before) l.arc l.before) in
      let b = before-arc g (bounded_level g ls k) l.last u l.arc in
      let s : bounded_level g ls (suc k) u ≡ greatest_prior_value g (bounded_level g ls k) u + 1 =
      within-suc g ls k u ∙ after-follower g ls (bounded_level g ls k) u (on.walks-follower g ls u (suc m) u e) in
      omega (arith, r, b, s)

  raised_by : (u m n : ℕ) → n ≡ m + 1 → walks g ls u n u ≡ true → g.n + 1 ≤ greatest (bounded_level g ls (g.n + 1)) (parties g)
  raised_by u m n e w =
      let q : n ≡ suc m = omega arith in
      let t : walks g ls u (suc m) u ≡ true = ap (λ (k : ℕ). walks g ls u k u) (sym q) ∙ w in
      let r = cycle_rises (g.n + 1) u m t in
      let b = greatest-in (bounded_level g ls (g.n + 1)) (parties g) u (in_range u g.n (follower_parts g ls u (on.walks-follower g ls u n u w)).0) in
      omega (arith, r, b)

  raised : (c : List ℕ) → follower_cycle g ls ≡ Some c → g.n + 1 ≤ greatest (bounded_level g ls (g.n + 1)) (parties g)
  unfolding follower_cycle
  raised c e =
      let m = on.first_in (traced_cycle g ls) 0 g.n c e in
      let k = on.closed_from g ls m.now c m.gives in
      let l = k.low in
      raised_by m.now (k.size - 1) k.size (omega arith) k.walk

  kept : IsFeedback g ls → greatest (bounded_level g ls (g.n + 1)) (parties g) ≤ g.n
  kept feedback = greatest-below (bounded_level g ls (g.n + 1)) (parties g) g.n (λ v i. go v (within-reached g ls feedback (g.n + 1) v))
    where
      go : (v : ℕ) → (bounded_level g ls (g.n + 1) v ≡ 0) ⊎ Run g ls feedback v (bounded_level g ls (g.n + 1) v) → bounded_level g ls (g.n + 1) v ≤ g.n
      go v (inl z) = omega arith
      go v (inr r) = let n = path_length g r.run r.path in let s = r.size in omega (arith, n, s)

  pub decided : nat_lt g.n (greatest (bounded_level g ls (g.n + 1)) (parties g)) ≡ is_some (follower_cycle g ls)
  decided = go (follower_cycle g ls) refl
    where
      go : (o : Option (List ℕ)) → follower_cycle g ls ≡ o → nat_lt g.n (greatest (bounded_level g ls (g.n + 1)) (parties g)) ≡ is_some o
      go None e = le-ltb _ _ (kept (on.none_feedback g ls e))
      go (Some c) e = let r = raised c e in lt-ltb _ _ (omega (arith, r))
