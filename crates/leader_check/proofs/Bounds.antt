-- A path that ends in a leader is as long as the vertices, the leaders and the paths of followers
-- allow.
use Rattle.std.proofs.Common.{◌≡◌, ◌⊎◌, ℕ, suc, ◌+◌, ◌*◌, ◌<◌, ◌≤◌, Bool, true, false, cond, not, List, [], ◌∷◌, length, filter, refl, sym, ap, ◌∙◌}
use Rattle.std.proofs.Common.{subst, inl, inr, arith, eqb-true, eq-eqb, lt-ltb, mul-le-mul_right}
use Rattle.swap_base.specs.Lists.{IsElement}
use Rattle.swap_base.proofs.Lists.{and_both, from_filter}
use Rattle.swap_digraph.specs.Value.{Graph}
use Rattle.swap_digraph.specs.Graph.{is_path, is_listed, has_arc, first_is, last_is, listed_arcs, are_followers, IsHeight}
use Rattle.time_bounds.specs.Times.{need}
use Rattle.leader_check.specs.Laws.{PathsToLeadersAreBounded}
use Rattle.swap_digraph.proofs.Paths.{is_listed-true, in-is_listed, Step, path_step, path_more, path_distinct, path_length, subset_length, distinct_filter}

module _ (g : Graph) (leaders : List ℕ) (h : ℕ) (height : IsHeight g leaders h) where
  abbrev led : List ℕ → ℕ
  led p = length (filter (λ v. is_listed v leaders) p)

  led-cons : (u : ℕ) (p : List ℕ) (b : Bool) → is_listed u leaders ≡ b → led (u ∷ p) ≡ cond b 1 0 + led p
  led-cons u p b e = ap (λ x. length (cond x (u ∷ filter (λ v. is_listed v leaders) p) (filter (λ v. is_listed v leaders) p))) e ∙ go b
    where
      go : (b : Bool) → length (cond b (u ∷ filter (λ v. is_listed v leaders) p) (filter (λ v. is_listed v leaders) p)) ≡ cond b 1 0 + led p
      go true = omega arith
      go false = omega arith

  -- the followers that a path begins with
  record Run (u : ℕ) (p : List ℕ) : Type 0 where
    run : List ℕ
    short : length run ≤ h
    part : (x : ℕ) → IsElement x run → IsElement x p
    path : (length run ≡ 0) ⊎ ((is_path g run ≡ true) × (first_is u run ≡ true) × (are_followers leaders run ≡ true))
    bound : length p + h ≤ led p * (h + 1) + length run

  longer : (u v : ℕ) (q : List ℕ) → u < g.n → has_arc g u v ≡ true → is_listed u leaders ≡ false → (IsElement u q → ⊥)
      → (length q ≡ 0) ⊎ ((is_path g q ≡ true) × (first_is v q ≡ true) × (are_followers leaders q ≡ true))
      → (is_path g (u ∷ q) ≡ true) × (first_is u (u ∷ q) ≡ true) × (are_followers leaders (u ∷ q) ≡ true)
  longer u v [] b a l f k = (lt-ltb u g.n b, eq-eqb u u refl, and_both (not (is_listed u leaders)) true (ap not l) refl)
  longer u v (w ∷ q) b a l f (inl z) = absurd (omega arith)
  longer u v (w ∷ q) b a l f (inr k) =
      let same : w ≡ v = eqb-true w v k.1 in (
        path_more g u w q b f (ap (has_arc g u) same ∙ a) k.0,
        eq-eqb u u refl,
        and_both (not (is_listed u leaders)) (are_followers leaders (w ∷ q)) (ap not l) k.2,
      )

  runs : (u : ℕ) (p : List ℕ) (l : ℕ) → is_path g (u ∷ p) ≡ true → last_is l (u ∷ p) ≡ true → IsElement l leaders → Run u (u ∷ p)
  runs u [] l e last i =
      let lead : is_listed u leaders ≡ true = in-is_listed u leaders (subst (λ x. IsElement x leaders) (sym (eqb-true u l last)) i) in
      let k : led (u ∷ []) ≡ 1 + 0 = led-cons u [] true lead in
      let k2 : led (u ∷ []) * (h + 1) ≡ 1 * (h + 1) = ap (λ n. n * (h + 1)) k in
      record { run = []; short = omega arith; part = λ x j. absurd j; path = inl refl; bound = omega arith }
  runs u (v ∷ p) l e last i =
      let s = path_step g u v p e in
      go (is_listed u leaders) refl s (runs v p l s.rest last i)
    where
      go : (b : Bool) → is_listed u leaders ≡ b → Step g u v p → Run v (v ∷ p) → Run u (u ∷ v ∷ p)
      go true lead s r =
          let k : led (u ∷ v ∷ p) ≡ 1 + led (v ∷ p) = led-cons u (v ∷ p) true lead in
          let k2 : led (u ∷ v ∷ p) * (h + 1) ≡ (1 + led (v ∷ p)) * (h + 1) = ap (λ n. n * (h + 1)) k in
          let b = r.bound in
          let sh = r.short in
          record { run = []; short = omega arith; part = λ x j. absurd j; path = inl refl; bound = omega arith }
      go false lead s r =
          let k : led (u ∷ v ∷ p) ≡ 0 + led (v ∷ p) = led-cons u (v ∷ p) false lead in
          let k2 : led (u ∷ v ∷ p) * (h + 1) ≡ (0 + led (v ∷ p)) * (h + 1) = ap (λ n. n * (h + 1)) k in
          let b = r.bound in
          let long = longer u v r.run s.below s.arc lead (λ j. s.fresh (r.part u j)) r.path in
          let sh : suc (length r.run) ≤ h = height.most (u ∷ r.run) long.0 long.2 in
          record { run = u ∷ r.run; short = sh; part = λ x. elim [ inl q ↦ inl q | inr j ↦ inr (r.part x j) ]; path = inr long; bound = omega arith }

  -- a path that ends in a leader has at most as many arcs as `need` says
  pub path_law : (p : List ℕ) (l : ℕ) → is_path g p ≡ true → last_is l p ≡ true → IsElement l leaders → listed_arcs p ≤ need g.n (length leaders) h
  path_law [] l e last i = absurd (cc e)
  path_law (u ∷ p) l e last i =
      let r = runs u p l e last i in
      let b = r.bound in
      let sh = r.short in
      let few : led (u ∷ p) ≤ length leaders =
      subset_length (filter (λ v. is_listed v leaders) (u ∷ p)) leaders
      (distinct_filter (λ v. is_listed v leaders) (u ∷ p) (path_distinct g (u ∷ p) e))
      (λ x j. is_listed-true x leaders (from_filter (λ v. is_listed v leaders) x (u ∷ p) j).1) in
      let m : led (u ∷ p) * (h + 1) ≤ length leaders * (h + 1) = mul-le-mul_right (h + 1) few in
      let n : suc (length p) ≤ g.n = path_length g (u ∷ p) e in
      omega arith

pub paths_to_leaders_are_bounded : PathsToLeadersAreBounded
paths_to_leaders_are_bounded g leaders h height p l e last i = path_law g leaders h height p l e last (is_listed-true l leaders i)
