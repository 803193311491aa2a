-- Walks: `reaches_in_arcs` step by step, at their beginning and at their end, and the arcs by
-- number.
use Rattle.std.proofs.Common.{◌≡◌, ◌⊎◌, ℕ, zero, suc, ◌+◌, ◌-◌, ◌<◌, ◌≤◌, ◌==◌, true, ◌&&◌, List, [], ◌∷◌, length, refl, sym, subst, inl, inr, arith}
use Rattle.std.proofs.Common.{eqb-true, eq-eqb}
use Rattle.std.specs.List.{list_any}
use Rattle.swap_base.proofs.Lists.{list_any-in, or-right, and_parts, and_both, in_range, from_range}
use Rattle.swap_digraph.specs.declared.arc_ends.ArcEnds.{ArcEnds}
use Rattle.swap_digraph.specs.Value.{Graph}
use Rattle.swap_digraph.specs.Graph.{parties, has_arc, resolve_all_ends}
use Rattle.digraph_check.specs.Reach.{reaches_in_arcs}
use Rattle.digraph_check.proofs.ListTests.{or_split, or-left, passing}

-- a walk that goes on along an arc, by at most k more
pub record Along (g : Graph) (k u v : ℕ) : Type 0 where
  pub next : ℕ
  pub party : next < g.n
  pub arc : has_arc g u next ≡ true
  pub rest : reaches_in_arcs g k next v ≡ true

pub goes_on : (g : Graph) (k u v : ℕ) → reaches_in_arcs g (suc k) u v ≡ true → (u ≡ v) ⊎ Along g k u v
unfolding reaches_in_arcs
goes_on g k u v h = by_cases (or_split (u == v) (list_any (λ w. has_arc g u w && reaches_in_arcs g k w v) (parties g)) h)
  where
    by_cases : ((u == v) ≡ true) ⊎ (list_any (λ w. has_arc g u w && reaches_in_arcs g k w v) (parties g) ≡ true) → (u ≡ v) ⊎ Along g k u v
    by_cases (inl e) = inl (eqb-true u v e)
    by_cases (inr e) =
        let r = passing (λ w. has_arc g u w && reaches_in_arcs g k w v) (parties g) e in
        let t = and_parts (has_arc g u r.one) (reaches_in_arcs g k r.one v) r.passes in
        inr (record { next = r.one; party = from_range r.one g.n r.stands; arc = t.0; rest = t.1 })

pub stays : (g : Graph) (k u : ℕ) → reaches_in_arcs g k u u ≡ true
unfolding reaches_in_arcs
stays g zero u = eq-eqb u u refl
stays g (suc k) u = or-left (u == u) (list_any (λ w. has_arc g u w && reaches_in_arcs g k w u) (parties g)) (eq-eqb u u refl)

pub is_there : (g : Graph) (k u v : ℕ) → u ≡ v → reaches_in_arcs g k u v ≡ true
is_there g k u v e = subst (λ w. reaches_in_arcs g k u w ≡ true) e (stays g k u)

pub at_once : (g : Graph) (u v : ℕ) → reaches_in_arcs g 0 u v ≡ true → u ≡ v
unfolding reaches_in_arcs
at_once g u v h = eqb-true u v h

pub along : (g : Graph) (k u w v : ℕ) → w < g.n → has_arc g u w ≡ true → reaches_in_arcs g k w v ≡ true → reaches_in_arcs g (suc k) u v ≡ true
unfolding reaches_in_arcs
along g k u w v lt arc rest =
    or-right (u == v) (list_any (λ x. has_arc g u x && reaches_in_arcs g k x v) (parties g))
    (list_any-in (λ x. has_arc g u x && reaches_in_arcs g k x v) (parties g) w (and_both (has_arc g u w) (reaches_in_arcs g k w v) arc rest) (in_range w g.n lt))

-- One more arc is allowed.

more_along : (g : Graph) (k u v : ℕ) → (u ≡ v) ⊎ Along g k u v → ((w : ℕ) → reaches_in_arcs g k w v ≡ true → reaches_in_arcs g (suc k) w v ≡ true)
    → reaches_in_arcs g (suc (suc k)) u v ≡ true
more_along g k u v (inl e) rest = is_there g (suc (suc k)) u v e
more_along g k u v (inr a) rest = along g (suc k) u a.next v a.party a.arc (rest a.next a.rest)

pub more : (g : Graph) (k u v : ℕ) → reaches_in_arcs g k u v ≡ true → reaches_in_arcs g (suc k) u v ≡ true
more g zero u v h = is_there g 1 u v (at_once g u v h)
more g (suc k) u v h = more_along g k u v (goes_on g k u v h) (λ w r. more g k w v r)

more_by : (g : Graph) (j k n u v : ℕ) → j + k ≡ n → reaches_in_arcs g k u v ≡ true → reaches_in_arcs g n u v ≡ true
more_by g zero k n u v e h = let same : k ≡ n = omega arith in subst (λ (m : ℕ). reaches_in_arcs g m u v ≡ true) same h
more_by g (suc j) k n u v e h = more_by g j (suc k) n u v (omega arith) (more g k u v h)

pub at_most : (g : Graph) (k n u v : ℕ) → k ≤ n → reaches_in_arcs g k u v ≡ true → reaches_in_arcs g n u v ≡ true
at_most g k n u v le h = more_by g (n - k) k n u v (omega arith) h

-- One more arc at the end.

snoc_along : (g : Graph) (k u w v : ℕ) → v < g.n → has_arc g w v ≡ true → (u ≡ w) ⊎ Along g k u w
    → ((x : ℕ) → reaches_in_arcs g k x w ≡ true → reaches_in_arcs g (suc k) x v ≡ true) → reaches_in_arcs g (suc (suc k)) u v ≡ true
snoc_along g k u w v lt arc (inl e) rest = along g (suc k) u v v lt (subst (λ (x : ℕ). has_arc g x v ≡ true) (sym e) arc) (stays g (suc k) v)
snoc_along g k u w v lt arc (inr a) rest = along g (suc k) u a.next v a.party a.arc (rest a.next a.rest)

pub snoc : (g : Graph) (k u w v : ℕ) → v < g.n → has_arc g w v ≡ true → reaches_in_arcs g k u w ≡ true → reaches_in_arcs g (suc k) u v ≡ true
snoc g zero u w v lt arc h = along g 0 u v v lt (subst (λ (x : ℕ). has_arc g x v ≡ true) (sym (at_once g u w h)) arc) (stays g 0 v)
snoc g (suc k) u w v lt arc h = snoc_along g k u w v lt arc (goes_on g k u w h) (λ x r. snoc g k x w v lt arc r)

-- One walk after another.

pub record SomeWalk (g : Graph) (u v : ℕ) : Type 0 where
  pub most : ℕ
  pub walk : reaches_in_arcs g most u v ≡ true

two_along : (g : Graph) (k m u w v : ℕ) → (u ≡ w) ⊎ Along g k u w → reaches_in_arcs g m w v ≡ true → ((x : ℕ) → reaches_in_arcs g k x w ≡ true → SomeWalk g x v)
    → SomeWalk g u v
two_along g k m u w v (inl e) h rest = record { most = m; walk = subst (λ (x : ℕ). reaches_in_arcs g m x v ≡ true) (sym e) h }
two_along g k m u w v (inr a) h rest = let r = rest a.next a.rest in record { most = suc r.most; walk = along g r.most u a.next v a.party a.arc r.walk }

pub two_walks : (g : Graph) (k m u w v : ℕ) → reaches_in_arcs g k u w ≡ true → reaches_in_arcs g m w v ≡ true → SomeWalk g u v
two_walks g zero m u w v h r = record { most = m; walk = subst (λ (x : ℕ). reaches_in_arcs g m x v ≡ true) (sym (at_once g u w h)) r }
two_walks g (suc k) m u w v h r = two_along g k m u w v (goes_on g k u w h) r (λ x s. two_walks g k m x w v s r)

-- Arcs by number.

pub arc_json : (arcs : List ArcEnds) (a : ℕ) → a < length arcs
    → list_any (λ b. (b.from == (resolve_all_ends arcs a).from) && (b.to == (resolve_all_ends arcs a).to)) arcs ≡ true
arc_json [] a lt = absurd (omega arith)
arc_json (x ∷ arcs) zero lt =
    or-left ((x.from == x.from) && (x.to == x.to)) (list_any (λ b. (b.from == x.from) && (b.to == x.to)) arcs)
    (and_both (x.from == x.from) (x.to == x.to) (eq-eqb x.from x.from refl) (eq-eqb x.to x.to refl))
arc_json (x ∷ arcs) (suc a) lt =
    or-right ((x.from == (resolve_all_ends arcs a).from) && (x.to == (resolve_all_ends arcs a).to))
    (list_any (λ b. (b.from == (resolve_all_ends arcs a).from) && (b.to == (resolve_all_ends arcs a).to)) arcs)
    (arc_json arcs a (omega arith))

-- an arc with these ends
pub record ArcFrom (arcs : List ArcEnds) (u w : ℕ) : Type 0 where
  pub number : ℕ
  pub stands : number < length arcs
  pub from : (resolve_all_ends arcs number).from ≡ u
  pub to : (resolve_all_ends arcs number).to ≡ w

arc_head : (x : ArcEnds) (arcs : List ArcEnds) (u w : ℕ) → (((x.from == u) && (x.to == w)) ≡ true)
    ⊎ (list_any (λ b. (b.from == u) && (b.to == w)) arcs ≡ true) → (list_any (λ b. (b.from == u) && (b.to == w)) arcs ≡ true → ArcFrom arcs u w)
    → ArcFrom (x ∷ arcs) u w
arc_head x arcs u w (inl e) rest =
    let t = and_parts (x.from == u) (x.to == w) e in
    record { number = 0; stands = omega arith; from = eqb-true x.from u t.0; to = eqb-true x.to w t.1 }
arc_head x arcs u w (inr e) rest =
    let r = rest e in
    record { number = suc r.number; stands = (let lt : r.number < length arcs = r.stands in omega arith); from = r.from; to = r.to }

pub arc_number : (arcs : List ArcEnds) (u w : ℕ) → list_any (λ b. (b.from == u) && (b.to == w)) arcs ≡ true → ArcFrom arcs u w
arc_number [] u w h = absurd (cc h)
arc_number (x ∷ arcs) u w h =
    arc_head x arcs u w (or_split ((x.from == u) && (x.to == w)) (list_any (λ b. (b.from == u) && (b.to == w)) arcs) h) (arc_number arcs u w)
