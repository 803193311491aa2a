-- The closed set that is answered is closed, and there is none exactly where the digraph is
-- strongly connected.
use Rattle.std.proofs.Common.{◌≡◌, ◌≢◌, ◌⊎◌, ℕ, zero, suc, ◌<◌, ◌==◌, Bool, true, false, not, List, [], ◌∷◌, length, filter, Some, None, refl, sym, ap}
use Rattle.std.proofs.Common.{◌∙◌, subst, inl, inr, arith, eqb-true, eq-eqb}
use Rattle.std.proofs.lemmas.Bool.{eqb-false, both_ways, not-true}
use Rattle.std.specs.List.{range_with_len, list_all}
use Rattle.swap_base.proofs.Lists.{list_all-in, list_all-from, in_range, from_range}
use Rattle.swap_digraph.specs.Value.{Graph}
use Rattle.swap_digraph.specs.Graph.{parties, ends, is_listed, HasEnds, IsStronglyConnected}
use Rattle.digraph_check.specs.Reach.{reaches_in_arcs, reaches, reached, stranded, closed_set}
use Rattle.digraph_check.specs.Closed.{IsClosedSet}
use Rattle.digraph_check.proofs.ListTests.{failing, among_where, where_among, where_ascends}
use Rattle.digraph_check.proofs.Walks.{Along, goes_on, at_once, stays, snoc, along, two_walks, arc_json, arc_number}
use Rattle.digraph_check.proofs.Paths.{PathBetween, make_path, path_reaches, walk_reaches}

-- a member shows that a set isn't empty
not_empty : (set : List ℕ) (v : ℕ) → is_listed v set ≡ true → set ≢ []
not_empty set v h e = let k : false ≡ true = sym (ap (is_listed v) e) ∙ h in absurd (cc k)

no_member : (p : ℕ → Bool) (n v : ℕ) (b : Bool) → is_listed v (filter p (range_with_len 0 n)) ≡ b → p v ≡ false → b ≡ false
no_member p n v false h e = refl
no_member p n v true h e = absurd (both_ways (p v) e (where_among p n v h).1)

-- the parties that pass a test which arcs keep are closed, if one passes and one fails
closed_where : (g : Graph) (p : ℕ → Bool) (u v : ℕ) → HasEnds g → u < g.n → p u ≡ true → v < g.n → p v ≡ false
    → ((a : ℕ) → a < length g.arcs → p (ends g a).from ≡ true → p (ends g a).to ≡ true) → IsClosedSet g (filter p (parties g))
closed_where g p u v has lu pu lv pv keeps = record {
  some = not_empty (filter p (parties g)) u (among_where p g.n u lu pu);
  ascending = where_ascends p g.n;
  parties = λ w h. (where_among p g.n w h).0;
  others = (v, lv, no_member p g.n v (is_listed v (filter p (parties g))) refl pv);
  closed = λ a lt h. among_where p g.n (ends g a).to (has.to a lt) (keeps a lt (where_among p g.n (ends g a).from h).1);
}

pub reaches_itself : (g : Graph) (u : ℕ) → reaches g u u ≡ true
unfolding reaches
reaches_itself g u = stays g g.n u

-- what party 0 reaches goes on along arcs
on_from_zero : (g : Graph) (a : ℕ) → HasEnds g → 0 < g.n → a < length g.arcs → reaches g 0 (ends g a).from ≡ true → reaches g 0 (ends g a).to ≡ true
unfolding reaches
on_from_zero g a has some lt h = walk_reaches g (suc g.n) 0 (ends g a).to some (snoc g g.n 0 (ends g a).from (ends g a).to (has.to a lt)
    (arc_json g.arcs a lt) h)

back_to_zero : (g : Graph) (a : ℕ) → HasEnds g → a < length g.arcs → reaches g (ends g a).to 0 ≡ true → reaches g (ends g a).from 0 ≡ true
unfolding reaches
back_to_zero g a has lt h =
    walk_reaches g (suc g.n) (ends g a).from 0 (has.from a lt) (along g g.n (ends g a).from (ends g a).to 0 (has.to a lt) (arc_json g.arcs a lt) h)

-- what doesn't reach party 0 has no arc to what does
still_stranded : (g : Graph) (a : ℕ) → HasEnds g → a < length g.arcs → not (reaches g (ends g a).from 0) ≡ true → (b : Bool)
    → reaches g (ends g a).to 0 ≡ b → not b ≡ true
still_stranded g a has lt h false e = refl
still_stranded g a has lt h true e = absurd (both_ways (reaches g (ends g a).from 0) (not-true (reaches g (ends g a).from 0) h) (back_to_zero g a has lt e))

pub reached_closed : (g : Graph) → HasEnds g → 0 < g.n → list_all (λ v. reaches g 0 v) (parties g) ≡ false → IsClosedSet g (reached g)
reached_closed g has some h =
    let f = failing (λ v. reaches g 0 v) (parties g) h in
    closed_where g (λ v. reaches g 0 v) 0 f.one has some (reaches_itself g 0) (from_range f.one g.n f.stands) f.fails (λ a lt r. on_from_zero g a has some lt r)

pub stranded_closed : (g : Graph) → HasEnds g → 0 < g.n → list_all (λ v. reaches g v 0) (parties g) ≡ false → IsClosedSet g (stranded g)
stranded_closed g has some h =
    let f = failing (λ v. reaches g v 0) (parties g) h in
    closed_where g (λ v. not (reaches g v 0)) f.one 0 has (from_range f.one g.n f.stands) (ap not f.fails) some (ap not (reaches_itself g 0)) (λ a lt r.
    still_stranded g a has lt r (reaches g (ends g a).to 0) refl)

-- The three cases of the closed set.

pub closed_set-reached : (g : Graph) → list_all (λ v. reaches g 0 v) (parties g) ≡ false → closed_set g ≡ Some (reached g)
unfolding closed_set
closed_set-reached g h = rw h refl

pub closed_set-stranded : (g : Graph) → list_all (λ v. reaches g 0 v) (parties g) ≡ true → list_all (λ v. reaches g v 0) (parties g) ≡ false
    → closed_set g ≡ Some (stranded g)
unfolding closed_set
closed_set-stranded g h k = rw (h, k) refl

pub closed_set-none : (g : Graph) → list_all (λ v. reaches g 0 v) (parties g) ≡ true → list_all (λ v. reaches g v 0) (parties g) ≡ true → closed_set g ≡ None
unfolding closed_set
closed_set-none g h k = rw (h, k) refl

-- both tests hold where there is no closed set
pub record BothWays (g : Graph) : Type 0 where
  pub from_zero : list_all (λ v. reaches g 0 v) (parties g) ≡ true
  pub to_zero : list_all (λ v. reaches g v 0) (parties g) ≡ true

none_both : (g : Graph) (a b : Bool) → list_all (λ v. reaches g 0 v) (parties g) ≡ a → list_all (λ v. reaches g v 0) (parties g) ≡ b
    → closed_set g ≡ None → BothWays g
none_both g true true h k e = record { from_zero = h; to_zero = k }
none_both g true false h k e = absurd (let c : Some (stranded g) ≡ None = sym (closed_set-stranded g h k) ∙ e in cc c)
none_both g false b h k e = absurd (let c : Some (reached g) ≡ None = sym (closed_set-reached g h) ∙ e in cc c)

-- Strong connectivity.

through_zero : (g : Graph) (u v : ℕ) → BothWays g → u < g.n → v < g.n → PathBetween g u v
unfolding reaches
through_zero g u v both lu lv =
    let back = list_all-in (λ w. reaches_in_arcs g g.n w 0) (parties g) u both.to_zero (in_range u g.n lu) in
    let on = list_all-in (λ w. reaches_in_arcs g g.n 0 w) (parties g) v both.from_zero (in_range v g.n lv) in
    let w = two_walks g g.n g.n u 0 v back on in
    make_path g w.most u v lu w.walk

pub connected_of_none : (g : Graph) → closed_set g ≡ None → IsStronglyConnected g
connected_of_none g e u v lu lv apart =
    let r = through_zero g u v (none_both g (list_all (λ w. reaches g 0 w) (parties g)) (list_all (λ w. reaches g w 0) (parties g)) refl refl e) lu lv in
    (r.vertices, r.between)

connected_reaches : (g : Graph) (u v : ℕ) (b : Bool) → (u == v) ≡ b → IsStronglyConnected g → u < g.n → v < g.n → reaches g u v ≡ true
connected_reaches g u v true e strong lu lv = subst (λ (w : ℕ). reaches g u w ≡ true) (eqb-true u v e) (reaches_itself g u)
connected_reaches g u v false e strong lu lv = let r = strong u v lu lv (eqb-false u v e) in path_reaches g u v r.0 r.1

pub none_of_connected : (g : Graph) → IsStronglyConnected g → closed_set g ≡ None
none_of_connected g strong =
    closed_set-none g
    (list_all-from (λ v. reaches g 0 v) (parties g) (λ v i. let lt : v < g.n = from_range v g.n i in
    connected_reaches g 0 v (0 == v) refl strong (omega arith) lt))
    (list_all-from (λ v. reaches g v 0) (parties g) (λ v i. let lt : v < g.n = from_range v g.n i in
    connected_reaches g v 0 (v == 0) refl strong lt (omega arith)))

-- No walk leaves a closed set.

remains_on : (g : Graph) (set : List ℕ) (k u v : ℕ) → IsClosedSet g set → is_listed u set ≡ true → (u ≡ v) ⊎ Along g k u v
    → ((w : ℕ) → is_listed w set ≡ true → reaches_in_arcs g k w v ≡ true → is_listed v set ≡ true) → is_listed v set ≡ true
remains_on g set k u v closed h (inl e) rest = subst (λ (w : ℕ). is_listed w set ≡ true) e h
remains_on g set k u v closed h (inr a) rest =
    let r = arc_number g.arcs u a.next a.arc in
    rest a.next (subst (λ (w : ℕ). is_listed w set ≡ true) r.to
    (closed.closed r.number r.stands (subst (λ (w : ℕ). is_listed w set ≡ true) (sym r.from) h))) a.rest

remains : (g : Graph) (set : List ℕ) (k u v : ℕ) → IsClosedSet g set → is_listed u set ≡ true → reaches_in_arcs g k u v ≡ true → is_listed v set ≡ true
remains g set zero u v closed h r = subst (λ (w : ℕ). is_listed w set ≡ true) (at_once g u v r) h
remains g set (suc k) u v closed h r = remains_on g set k u v closed h (goes_on g k u v r) (λ w i s. remains g set k w v closed i s)

-- a member
member : (set : List ℕ) → set ≢ [] → (u : ℕ) × (is_listed u set ≡ true)
member [] apart = absurd (apart refl)
member (u ∷ set) apart = (u, rw (eq-eqb u u refl) refl)

pub excluded : (g : Graph) (set : List ℕ) → IsClosedSet g set → IsStronglyConnected g → ⊥
unfolding reaches
excluded g set closed strong =
    let m = member set closed.some in
    let o = closed.others in
    both_ways (is_listed o.0 set) o.2 (remains g set g.n m.0 o.0 closed m.1 (connected_reaches g m.0 o.0 (m.0 == o.0) refl strong (closed.parties m.0 m.1) o.1))

some_set : {xs ys : List ℕ} → Some xs ≡ Some ys → xs ≡ ys
some_set e = cc e

-- what is answered is closed
closed_by : (g : Graph) (a b : Bool) → HasEnds g → 0 < g.n → list_all (λ v. reaches g 0 v) (parties g) ≡ a
    → list_all (λ v. reaches g v 0) (parties g) ≡ b → (set : List ℕ) → Some set ≡ closed_set g → IsClosedSet g set
closed_by g false b has some h k set e = let same : reached g ≡ set =
    some_set (sym (closed_set-reached g h) ∙ sym e) in subst (IsClosedSet g) same (reached_closed g has some h)
closed_by g true false has some h k set e = let same : stranded g ≡ set =
    some_set (sym (closed_set-stranded g h k) ∙ sym e) in subst (IsClosedSet g) same (stranded_closed g has some k)
closed_by g true true has some h k set e = absurd (let c : Some set ≡ None = e ∙ closed_set-none g h k in cc c)

pub closed_of_set : (g : Graph) (set : List ℕ) → HasEnds g → 0 < g.n → Some set ≡ closed_set g → IsClosedSet g set
closed_of_set g set has some e = closed_by g (list_all (λ v. reaches g 0 v) (parties g)) (list_all (λ v. reaches g v 0) (parties g)) has some refl refl set e
