-- The rows that tell which party reaches which.
use Rattle.std.proofs.Common.{◌≡◌, ℕ, suc, ◌+◌, ◌<◌, ◌==◌, Bool, true, ◌&&◌, ◌||◌, List, length, refl, sym, ap, ◌∙◌, subst, arith, inl, inr, [], ◌∷◌}
use Rattle.std.proofs.Common.{eqb-true, eq-eqb}
use Rattle.std.specs.List.{list_any}
use Rattle.swap_base.proofs.Lists.{and_parts, and_both, list_any-in, any_at, in_from_moment, in_range}
use Rattle.swap_digraph.specs.Value.{Graph}
use Rattle.swap_digraph.specs.Graph.{parties, has_arc, HasEnds}
use Rattle.digraph_check.specs.Reach.{reaches_in_arcs, reaches}
use Rattle.digraph_check.proofs.ListTests.{same_test, passing}
use Rattle.leader_check.specs.Cycles.{has_bit, enters_led}
use Rattle.leader_check.proofs.Followers.{parse_arc, arc_from}
use Rattle.swap_clear.specs.Rows.{TellsBoundedReach, TellsReach}
use Rattle.std.proofs.Common.{get_or}
use Rattle.swap_digraph.specs.declared.arc_ends.ArcEnds.{ArcEnds}
use Rattle.swap_base.specs.Lists.{IsElement}

pub rows_first : (g : Graph) (row : List ℕ) → length row ≡ g.n → ((v u : ℕ) → u < g.n → has_bit row v u ≡ (u == v)) → TellsBoundedReach g 0 row
unfolding reaches_in_arcs
rows_first g row size own = record { parties = size; tells = λ u v lt. own v u lt }

-- the arcs of a list have their ends below n
arc_below : (n : ℕ) (xs : List ArcEnds) (x : ArcEnds) → ((a : ℕ) → a < length xs → (get_or xs a (record { from = 0; to = 0 })).to < n) → IsElement x xs → x.to < n
arc_below n [] x h i = absurd i
arc_below n (y ∷ xs) x h (inl e) = let l : y.to < n = h 0 (omega arith) in subst (λ (z : ArcEnds). z.to < n) (sym e) l
arc_below n (y ∷ xs) x h (inr i) = arc_below n xs x (λ a lt. h (suc a) (omega arith)) i

leads_over : (g : Graph) (f : ℕ → Bool) (u : ℕ) → HasEnds g → enters_led g f u ≡ list_any (λ w. has_arc g u w && f w) (parties g)
unfolding enters_led
leads_over g f u ends =
    same_test (list_any (λ a. (a.from == u) && f a.to) g.arcs) (list_any (λ w. has_arc g u w && f w) (parties g)) there back
  where
    there : list_any (λ a. (a.from == u) && f a.to) g.arcs ≡ true → list_any (λ w. has_arc g u w && f w) (parties g) ≡ true
    there e =
        let m = any_at (λ a. (a.from == u) && f a.to) g.arcs e in
        let k = and_parts (m.now.from == u) (f m.now.to) m.passes in
        let i = subst (λ xs. IsElement m.now xs) (sym m.stands.1) (in_from_moment m.past m.now m.stands.0) in
        list_any-in (λ w. has_arc g u w && f w) (parties g) m.now.to
        (and_both (has_arc g u m.now.to) (f m.now.to) (arc_from g m.now u m.now.to i (eqb-true m.now.from u k.0) refl) k.1)
        (in_range m.now.to g.n (arc_below g.n g.arcs m.now ends.to i))

    back : list_any (λ w. has_arc g u w && f w) (parties g) ≡ true → list_any (λ a. (a.from == u) && f a.to) g.arcs ≡ true
    back e =
        let p = passing (λ w. has_arc g u w && f w) (parties g) e in
        let k = and_parts (has_arc g u p.one) (f p.one) p.passes in
        let a = parse_arc g u p.one k.0 in
        list_any-in (λ b. (b.from == u) && f b.to) g.arcs a.arc
        (and_both (a.arc.from == u) (f a.arc.to) (eq-eqb a.arc.from u a.from) (ap f a.to ∙ k.1)) a.among

same_over : (g : Graph) (f h : ℕ → Bool) (u : ℕ) → HasEnds g → ((w : ℕ) → w < g.n → f w ≡ h w) → enters_led g f u ≡ enters_led g h u
unfolding enters_led
same_over g f h u ends e = go g.arcs (λ x i. e x.to (arc_below g.n g.arcs x ends.to i))
  where
    go : (xs : List ArcEnds) → ((x : ArcEnds) → IsElement x xs → f x.to ≡ h x.to)
        → list_any (λ a. (a.from == u) && f a.to) xs ≡ list_any (λ a. (a.from == u) && h a.to) xs
    go [] s = refl
    go (x ∷ xs) s =
        ap (λ (b : Bool). ((x.from == u) && b) || list_any (λ a. (a.from == u) && f a.to) xs) (s x (inl refl))
        ∙ ap (λ (b : Bool). ((x.from == u) && h x.to) || b) (go xs (λ y i. s y (inr i)))

pub rows_next : (g : Graph) (k : ℕ) (row next : List ℕ) → HasEnds g → TellsBoundedReach g k row → length next ≡ g.n
    → ((v u : ℕ) → u < g.n → has_bit next v u ≡ ((u == v) || enters_led g (has_bit row v) u)) → TellsBoundedReach g (k + 1) next
unfolding reaches_in_arcs
rows_next g k row next ends tell size leads =
    let s : k + 1 ≡ suc k = omega arith in
    record {
      parties = size;
      tells = λ u v lt.
          leads v u lt
          ∙ ap (λ (b : Bool). (u == v) || b) (same_over g (has_bit row v) (λ w. reaches_in_arcs g k w v) u ends (λ w below. tell.tells w v below)
          ∙ leads_over g (λ w. reaches_in_arcs g k w v) u ends)
          ∙ sym (ap (λ (j : ℕ). reaches_in_arcs g j u v) s);
    }

pub rows_all : (g : Graph) (k : ℕ) (row : List ℕ) → k ≡ g.n → TellsBoundedReach g k row → TellsReach g row
unfolding reaches
rows_all g k row e tell = record { parties = tell.parties; tells = λ u v lt. tell.tells u v lt ∙ ap (λ (j : ℕ). reaches_in_arcs g j u v) e }
