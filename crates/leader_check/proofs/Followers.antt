-- Followers and arcs, in the words of lists.
use Rattle.std.proofs.Common.{◌≡◌, ◌⊎◌, ℕ, ◌<◌, ◌≤◌, ◌==◌, max, true, not, ◌&&◌, List, [], ◌∷◌, refl, sym, ap, ◌∙◌, subst, inl, inr, arith, eqb-true}
use Rattle.std.proofs.Common.{eq-eqb, ltb-true, lt-ltb, nat_lt}
use Rattle.swap_base.specs.Lists.{IsElement, greatest}
use Rattle.swap_base.proofs.Lists.{and_parts, and_both, any_at, list_any-in, in_from_moment}
use Rattle.swap_digraph.specs.declared.arc_ends.ArcEnds.{ArcEnds}
use Rattle.swap_digraph.specs.Value.{Graph}
use Rattle.swap_digraph.specs.Graph.{has_arc, is_listed}
use Rattle.leader_check.specs.Followers.{is_follower}

pub follower_parts : (g : Graph) (ls : List ℕ) (v : ℕ) → is_follower g ls v ≡ true → (v < g.n) × (not (is_listed v ls) ≡ true)
follower_parts g ls v e = let k = and_parts (nat_lt v g.n) (not (is_listed v ls)) e in (ltb-true v g.n k.0, k.1)

pub follower_from : (g : Graph) (ls : List ℕ) (v : ℕ) → v < g.n → not (is_listed v ls) ≡ true → is_follower g ls v ≡ true
follower_from g ls v b e = and_both (nat_lt v g.n) (not (is_listed v ls)) (lt-ltb v g.n b) e

pub follower_is : (g : Graph) (ls : List ℕ) (v : ℕ) → v < g.n → is_follower g ls v ≡ not (is_listed v ls)
follower_is g ls v b = ap (λ t. t && not (is_listed v ls)) (lt-ltb v g.n b)

-- an arc with those ends
pub record Arc (g : Graph) (u v : ℕ) : Type 0 where
  pub arc : ArcEnds
  pub among : IsElement arc g.arcs
  pub from : arc.from ≡ u
  pub to : arc.to ≡ v

pub parse_arc : (g : Graph) (u v : ℕ) → has_arc g u v ≡ true → Arc g u v
parse_arc g u v e =
    let m = any_at (λ a. (a.from == u) && (a.to == v)) g.arcs e in
    let k = and_parts (m.now.from == u) (m.now.to == v) m.passes in
    record {
      arc = m.now;
      among = subst (λ xs. IsElement m.now xs) (sym m.stands.1) (in_from_moment m.past m.now m.stands.0);
      from = eqb-true m.now.from u k.0;
      to = eqb-true m.now.to v k.1;
    }

pub arc_from : (g : Graph) (a : ArcEnds) (u v : ℕ) → IsElement a g.arcs → a.from ≡ u → a.to ≡ v → has_arc g u v ≡ true
arc_from g a u v i e f = list_any-in (λ b. (b.from == u) && (b.to == v)) g.arcs a (and_both (a.from == u) (a.to == v) (eq-eqb a.from u e) (eq-eqb a.to v f)) i

-- The greatest value along a list.

pub greatest-reached : {A : Type 0} (f : A → ℕ) (xs : List A) → (greatest f xs ≡ 0) ⊎ ((x : A) × IsElement x xs × (f x ≡ greatest f xs))
greatest-reached f [] = inl refl
greatest-reached {A = A} f (x ∷ xs) = go (greatest-reached f xs)
  where
    larger : (m n : ℕ) → (max m n ≡ m) ⊎ (max m n ≡ n)
    larger m n = grind arith

    pick : (max (f x) (greatest f xs) ≡ f x) ⊎ (max (f x) (greatest f xs) ≡ greatest f xs)
        → (greatest f xs ≡ 0) ⊎ ((y : A) × IsElement y xs × (f y ≡ greatest f xs))
        → (max (f x) (greatest f xs) ≡ 0) ⊎ ((y : A) × IsElement y (x ∷ xs) × (f y ≡ max (f x) (greatest f xs)))
    pick (inl e) r = inr (x, inl refl, sym e)
    pick (inr e) (inl z) = inl (e ∙ z)
    pick (inr e) (inr y) = inr (y.0, inr y.1, y.2 ∙ sym e)

    go : (greatest f xs ≡ 0) ⊎ ((y : A) × IsElement y xs × (f y ≡ greatest f xs))
        → (max (f x) (greatest f xs) ≡ 0) ⊎ ((y : A) × IsElement y (x ∷ xs) × (f y ≡ max (f x) (greatest f xs)))
    go r = pick (larger (f x) (greatest f xs)) r

pub greatest-more : {A : Type 0} (f h : A → ℕ) (xs : List A) → ((x : A) → f x ≤ h x) → greatest f xs ≤ greatest h xs
greatest-more f h [] le = omega arith
greatest-more f h (x ∷ xs) le = let a = greatest-more f h xs le in let b = le x in omega arith
