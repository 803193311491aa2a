-- Turned round, a walk leads back.
use Rattle.std.proofs.Common.{◌≡◌, ◌⊎◌, ℕ, zero, suc, ◌<◌, ◌==◌, Bool, true, ◌&&◌, ◌||◌, List, [], ◌∷◌, length, map, refl, sym, ap, ◌∙◌, subst}
use Rattle.std.proofs.Common.{inl, inr, arith}
use Rattle.std.proofs.lemmas.List.{length-map}
use Rattle.std.specs.List.{list_any}
use Rattle.swap_base.proofs.Lists.{and_swap}
use Rattle.swap_digraph.specs.declared.arc_ends.ArcEnds.{ArcEnds}
use Rattle.swap_digraph.specs.Value.{Graph}
use Rattle.swap_digraph.specs.Graph.{has_arc, HasEnds, resolve_all_ends}
use Rattle.digraph_check.specs.Reach.{reaches_in_arcs, reaches, reversed, reversed_ends}
use Rattle.digraph_check.proofs.ListTests.{same_test}
use Rattle.digraph_check.proofs.Walks.{Along, goes_on, is_there, at_once, snoc}

arc_turned : (arcs : List ArcEnds) (u w : ℕ)
    → list_any (λ a. (a.from == w) && (a.to == u)) (map reversed_ends arcs) ≡ list_any (λ a. (a.from == u) && (a.to == w)) arcs
arc_turned [] u w = refl
arc_turned (x ∷ arcs) u w =
    ap (λ (b : Bool). b || list_any (λ a. (a.from == w) && (a.to == u)) (map reversed_ends arcs)) (and_swap (x.to == w) (x.from == u))
    ∙ ap (λ (b : Bool). ((x.from == u) && (x.to == w)) || b) (arc_turned arcs u w)

turn_along : (g h : Graph) (k u v : ℕ) → u < h.n → ((x y : ℕ) → has_arc g x y ≡ true → has_arc h y x ≡ true) → (u ≡ v) ⊎ Along g k u v
    → ((w : ℕ) → w < g.n → reaches_in_arcs g k w v ≡ true → reaches_in_arcs h k v w ≡ true) → reaches_in_arcs h (suc k) v u ≡ true
turn_along g h k u v lt turned (inl e) rest = is_there h (suc k) v u (sym e)
turn_along g h k u v lt turned (inr a) rest = snoc h k v a.next u lt (turned u a.next a.arc) (rest a.next a.party a.rest)

turn : (g h : Graph) (k u v : ℕ) → g.n ≡ h.n → ((x y : ℕ) → has_arc g x y ≡ true → has_arc h y x ≡ true) → u < h.n → reaches_in_arcs g k u v ≡ true
    → reaches_in_arcs h k v u ≡ true
turn g h zero u v same turned lt r = is_there h 0 v u (sym (at_once g u v r))
turn g h (suc k) u v same turned lt r =
    turn_along g h k u v lt turned (goes_on g k u v r) (λ w l s. turn g h k w v same turned (subst (λ (n : ℕ). w < n) same l) s)

pub reaches-reversed : (g : Graph) (u v : ℕ) → u < g.n → v < g.n → reaches (reversed g) u v ≡ reaches g v u
unfolding reaches
reaches-reversed g u v lu lv =
    same_test (reaches_in_arcs (reversed g) g.n u v) (reaches_in_arcs g g.n v u)
    (turn (reversed g) g g.n u v refl (λ x y e. sym (arc_turned g.arcs y x) ∙ e) lu)
    (turn g (reversed g) g.n v u refl (λ x y e. arc_turned g.arcs x y ∙ e) lv)

pub ends_turned : (arcs : List ArcEnds) (a : ℕ) → a < length arcs → resolve_all_ends (map reversed_ends arcs) a ≡ reversed_ends (resolve_all_ends arcs a)
ends_turned [] a lt = absurd (omega arith)
ends_turned (x ∷ arcs) zero lt = refl
ends_turned (x ∷ arcs) (suc a) lt = ends_turned arcs a (omega arith)

has_ends_turned : (g : Graph) → HasEnds g → HasEnds (reversed g)
has_ends_turned g has = record {
  from = λ a lt. let k = within a lt in let e = ends_turned g.arcs a k in rw e (has.to a k);
  to = λ a lt. let k = within a lt in let e = ends_turned g.arcs a k in rw e (has.from a k);
  apart = λ a lt. let k = within a lt in let e = ends_turned g.arcs a k in rw e (λ same. has.apart a k (sym same));
}
  where
    within : (a : ℕ) → a < length (map reversed_ends g.arcs) → a < length g.arcs
    within a lt = let e : length (map reversed_ends g.arcs) ≡ length g.arcs = length-map g.arcs reversed_ends in omega arith

pub has_ends_back : (g : Graph) (n : ℕ) (arcs : List ArcEnds) → n ≡ g.n → arcs ≡ map reversed_ends g.arcs → HasEnds g → HasEnds (record { n = n; arcs = arcs })
has_ends_back g n arcs e h has =
    subst (λ (m : ℕ). HasEnds (record { n = m; arcs = arcs })) (sym e)
    (subst (λ (xs : List ArcEnds). HasEnds (record { n = g.n; arcs = xs })) (sym h) (has_ends_turned g has))
