-- A ring is strongly connected, and where followers lead up alone, the leaders break every cycle.
use Rattle.std.proofs.Common.{◌≡◌, ◌⊎◌, ℕ, zero, suc, ◌+◌, ◌-◌, ◌%◌, ◌<◌, ◌≤◌, Bool, true, false, not, List, [], ◌∷◌, refl, sym}
use Rattle.std.proofs.Common.{ap, ◌∙◌, subst, inl, inr, arith, eqb-true}
use Rattle.std.specs.List.{list_all, range_with_len}
use Rattle.std.proofs.Math.Nat.{mod-eq_of_lt, mod_self}
use Rattle.std.proofs.lemmas.Bool.{false≢true, cases_lt, not-true}
use Rattle.swap_base.specs.Lists.{IsElement}
use Rattle.swap_base.proofs.Lists.{and_parts, list_all-from, in_range, from_range}
use Rattle.swap_digraph.specs.Value.{Graph}
use Rattle.swap_digraph.specs.Graph.{parties, is_path, is_listed, has_arc, last_is, are_followers, IsFeedback, IsStronglyConnected}
use Rattle.digraph_check.specs.Reach.{reaches_in_arcs, reaches}
use Rattle.digraph_check.proofs.Walks.{stays, along, snoc}
use Rattle.digraph_check.proofs.Paths.{walk_reaches}
use Rattle.digraph_check.proofs.ClosedSets.{closed_set-none, connected_of_none}
use Rattle.leader_check.proofs.Followers.{parse_arc, arc_from}
use Rattle.swap_digraph.proofs.Paths.{path_step, in-is_listed}
use Rattle.swap_gen.specs.Drawn.{ring_arc}
use Rattle.swap_gen.proofs.Sound.{AreSound}

-- The ring.

module _ (g : Graph) (some : 0 < g.n) (ring : (i : ℕ) → i < g.n → IsElement (ring_arc g.n i) g.arcs) where
  ring_step : (i : ℕ) → i + 1 < g.n → has_arc g i (i + 1) ≡ true
  ring_step i lt = arc_from g (ring_arc g.n i) i (i + 1) (ring i (omega arith)) refl (mod-eq_of_lt lt)

  ring_ends : (i : ℕ) → i + 1 ≡ g.n → has_arc g i 0 ≡ true
  ring_ends i e = arc_from g (ring_arc g.n i) i 0 (ring i (omega arith)) refl (ap (λ k. k % g.n) e ∙ mod_self g.n)

  -- party 0 reaches each in as many steps as its number
  from_zero : (v : ℕ) → v < g.n → reaches_in_arcs g v 0 v ≡ true
  from_zero zero lt = stays g 0 0
  from_zero (suc v) lt =
      let s : v + 1 ≡ suc v = omega arith in
      snoc g v 0 v (suc v) lt (subst (λ w. has_arc g v w ≡ true) s (ring_step v (omega arith))) (from_zero v (omega arith))

  -- each reaches party 0 by the rest of the ring
  to_zero : (k v : ℕ) → v + k + 1 ≡ g.n → reaches_in_arcs g (suc k) v 0 ≡ true
  to_zero zero v e = along g 0 v 0 0 some (ring_ends v (omega arith)) (stays g 0 0)
  to_zero (suc k) v e = along g (suc k) v (v + 1) 0 (omega arith) (ring_step v (omega arith)) (to_zero k (v + 1) (omega arith))

  pub ring_is_strong : IsStronglyConnected g
  ring_is_strong =
      connected_of_none g
      (closed_set-none g
      (list_all-from (λ v. reaches g 0 v) (parties g) (λ v i. walk_reaches g v 0 v some (from_zero v (from_range v g.n i))))
      (list_all-from (λ v. reaches g v 0) (parties g) (λ v i. let lt : v < g.n =
      from_range v g.n i in walk_reaches g (suc (g.n - (v + 1))) v 0 lt (to_zero (g.n - (v + 1)) v (omega arith)))))

-- Followers.

module _ (g : Graph) (leaders : List ℕ) (rises : (u v : ℕ) → has_arc g u v ≡ true → not (is_listed u leaders) ≡ true → not (is_listed v leaders) ≡ true
    → u < v) where
  -- the first of a path of followers has the lowest number, and the last follows too
  first_is_low : (p : List ℕ) (u v : ℕ) → is_path g (u ∷ p) ≡ true → are_followers leaders (u ∷ p) ≡ true → last_is v (u ∷ p) ≡ true
      → (u ≤ v) × (not (is_listed v leaders) ≡ true)
  first_is_low [] u v path follow last =
      let e : u ≡ v = eqb-true u v last in
      let f = and_parts (not (is_listed u leaders)) true follow in
      (omega arith, subst (λ w. not (is_listed w leaders) ≡ true) e f.0)
  first_is_low (w ∷ p) u v path follow last =
      let s = path_step g u w p path in
      let f = and_parts (not (is_listed u leaders)) (are_followers leaders (w ∷ p)) follow in
      let h = and_parts (not (is_listed w leaders)) (are_followers leaders p) f.1 in
      let up = rises u w s.arc f.0 h.0 in
      let r = first_is_low p w v s.rest f.1 last in
      let le = r.0 in
      (omega arith, r.1)

  pub rising_is_feedback : IsFeedback g leaders
  rising_is_feedback u v [] between follow = absurd (cc (between.0))
  rising_is_feedback u v (x ∷ p) between follow =
      let e : x ≡ u = eqb-true x u between.1 in
      let f = and_parts (not (is_listed x leaders)) (are_followers leaders p) follow in
      let r = first_is_low p x v between.0 follow between.2 in
      go e f.0 r.0 r.1 (has_arc g v u) refl
    where
      go : x ≡ u → not (is_listed x leaders) ≡ true → x ≤ v → not (is_listed v leaders) ≡ true → (b : Bool) → has_arc g v u ≡ b → b ≡ false
      go e f le h false a = refl
      go e f le h true a = let up = rises v u a h (subst (λ w. not (is_listed w leaders) ≡ true) e f) in absurd (omega arith)

-- the parties from the count on follow
pub follower_above : (count u : ℕ) → not (is_listed u (range_with_len 0 count)) ≡ true → count ≤ u
follower_above count u h = go (cases_lt u count)
  where
    go : (u < count) ⊎ (count ≤ u) → count ≤ u
    go (inl lt) = absurd (false≢true (sym (not-true (is_listed u (range_with_len 0 count)) h) ∙ in-is_listed u (range_with_len 0 count) (in_range u count lt)))
    go (inr le) = le

pub sound_rises : (g : Graph) (leaders : ℕ) → AreSound leaders g.n g.arcs → (u v : ℕ) → has_arc g u v ≡ true
    → not (is_listed u (range_with_len 0 leaders)) ≡ true → not (is_listed v (range_with_len 0 leaders)) ≡ true → u < v
sound_rises g leaders h u v arc f t =
    let a = parse_arc g u v arc in
    let from = a.from in
    let to = a.to in
    let fu = follower_above leaders u f in
    let fv = follower_above leaders v t in
    let up = (h.each a.arc a.among).rises (omega (arith, from, fu)) (omega (arith, to, fv)) in
    omega (arith, from, to, up)
