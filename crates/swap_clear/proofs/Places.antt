-- A group's own digraph: its parties by their places.
use Rattle.std.proofs.Common.{◌≡◌, ◌≢◌, ◌⊎◌, ℕ, zero, suc, ◌+◌, ◌<◌, ◌==◌, Bool, true, false, List, [], ◌∷◌, length, filter, position}
use Rattle.std.proofs.Common.{Option, Some, None, unwrap_or, refl, sym, ap, ◌∙◌, subst, inl, inr, arith, eqb-true, eq-eqb, lt-ltb, get_or}
use Rattle.std.proofs.lemmas.List.{get_or-map, length-map}
use Rattle.std.proofs.lemmas.List.Quantifiers.{position-Some}
use Rattle.std.specs.List.{position_or_len, range_with_len}
use Rattle.std.specs.List.Sorted.{IsStrictlyIncreasing}
use Rattle.swap_base.specs.Lists.{IsElement}
use Rattle.swap_base.proofs.Lists.{and_parts, and_both, in_place, in_map}
use Rattle.swap_digraph.specs.declared.arc_ends.ArcEnds.{ArcEnds}
use Rattle.swap_digraph.specs.Value.{Graph}
use Rattle.swap_digraph.specs.Graph.{ends, has_arc, is_listed, HasEnds, IsStronglyConnected}
use Rattle.swap_digraph.proofs.Paths.{is_listed-true, in-is_listed}
use Rattle.digraph_check.specs.Reach.{reaches_in_arcs, reaches}
use Rattle.digraph_check.proofs.Walks.{Along, goes_on, is_there, at_once, along, arc_number}
use Rattle.digraph_check.proofs.ListTests.{among_where, where_among, where_ascends}
use Rattle.digraph_check.proofs.Paths.{reaches_path, walk_reaches}
use Rattle.leader_check.proofs.Followers.{arc_from}
use Rattle.swap_clear.specs.Groups.{strong_component, index_in_set, find_party, own_ends}
use Rattle.swap_clear.proofs.Cyclic.{on_to}
use Rattle.swap_clear.proofs.Together.{is_with, is_inside, with_turn, with_on, in_group, from_group}
use Rattle.swap_clear.proofs.Gathered.{arcs_with, own_with}

-- An increasing list.

pub rises : (xs : List ℕ) → IsStrictlyIncreasing xs → (i j : ℕ) → i < j → j < length xs → get_or xs i 0 < get_or xs j 0
rises xs up i zero lt l = absurd (omega arith)
rises xs up i (suc j) lt l = go (at_or_below i j lt) (λ h. rises xs up i j h (omega arith))
  where
    at_or_below : (a b : ℕ) → a < suc b → (a ≡ b) ⊎ (a < b)
    at_or_below a b h = grind arith

    step : get_or xs j 0 < get_or xs (suc j) 0
    step = let k : j + 1 ≡ suc j = omega arith in subst (λ (m : ℕ). get_or xs j 0 < get_or xs m 0) k (up j (omega arith))

    go : (i ≡ j) ⊎ (i < j) → (i < j → get_or xs i 0 < get_or xs j 0) → get_or xs i 0 < get_or xs (suc j) 0
    go (inl e) rest = let s = step in subst (λ (m : ℕ). get_or xs m 0 < get_or xs (suc j) 0) (sym e) s
    go (inr h) rest = let s = step in let r = rest h in omega (arith, s, r)

three : (i j : ℕ) → (i ≡ j) ⊎ ((i < j) ⊎ (j < i))
three i j = grind arith

pub apart : (xs : List ℕ) → IsStrictlyIncreasing xs → (i j : ℕ) → i < length xs → j < length xs → get_or xs i 0 ≡ get_or xs j 0 → i ≡ j
apart xs up i j li lj e = go (three i j)
  where
    go : (i ≡ j) ⊎ ((i < j) ⊎ (j < i)) → i ≡ j
    go (inl s) = s
    go (inr (inl lt)) = let r = rises xs up i j lt lj in absurd (omega (arith, r, e))
    go (inr (inr lt)) = let r = rises xs up j i lt li in absurd (omega (arith, r, e))

all_kept : (xs : List ℕ) → filter (λ x. true) xs ≡ xs
all_kept [] = refl
all_kept (x ∷ xs) = ap (λ (ys : List ℕ). x ∷ ys) (all_kept xs)

pub range_up : (n : ℕ) → IsStrictlyIncreasing (range_with_len 0 n)
range_up n = subst (λ (xs : List ℕ). IsStrictlyIncreasing xs) (all_kept (range_with_len 0 n)) (where_ascends (λ x. true) n)

-- Places.

pub record Stands (set : List ℕ) (w : ℕ) : Type 0 where
  pub below : index_in_set set w < length set
  pub is : find_party set (index_in_set set w) ≡ w

found : (set : List ℕ) (w : ℕ) (o : Option ℕ) → position (λ x. x == w) set ≡ o → (o ≡ None → ⊥) → Stands set w
found set w None e n = absurd (n refl)
found set w (Some k) e n =
    let p = position-Some (λ x. x == w) set k 0 e in
    let here : index_in_set set w ≡ k = ap (λ (o : Option ℕ). unwrap_or o 0) e in
    record {
      below = subst (λ (m : ℕ). m < length set) (sym here) p.0;
      is = ap (λ (m : ℕ). get_or set m 0) here ∙ eqb-true (get_or set k 0) w p.1;
    }

short : (set : List ℕ) (w : ℕ) → IsElement w set → position_or_len (λ x. x == w) set < length set
short [] w i = absurd i
short (x ∷ set) w (inl e) = go (x == w) (eq-eqb x w (sym e)) refl
  where
    go : (b : Bool) → (x == w) ≡ true → (x == w) ≡ b → position_or_len (λ y. y == w) (x ∷ set) < length (x ∷ set)
    go b t s = rw t (omega arith)
short (x ∷ set) w (inr i) = go (x == w) refl (short set w i)
  where
    go : (b : Bool) → (x == w) ≡ b → position_or_len (λ y. y == w) set < length set → position_or_len (λ y. y == w) (x ∷ set) < length (x ∷ set)
    go true s r = rw s (omega arith)
    go false s r = rw s (omega (arith, r))

pub stands : (set : List ℕ) (w : ℕ) → is_listed w set ≡ true → Stands set w
stands set w i = found set w (position (λ x. x == w) set) refl (λ none. not_none (short set w (is_listed-true w set i)) none)
  where
    not_none : position_or_len (λ x. x == w) set < length set → position (λ x. x == w) set ≡ None → ⊥
    not_none lt e = cc (e, lt-ltb (position_or_len (λ x. x == w) set) (length set) lt)

pub place_back : (set : List ℕ) → IsStrictlyIncreasing set → (k : ℕ) → k < length set → index_in_set set (find_party set k) ≡ k
place_back set up k lt =
    let s = stands set (find_party set k) (in-is_listed (find_party set k) set (in_place set k 0 lt)) in
    apart set up (index_in_set set (find_party set k)) k s.below lt s.is

-- The own digraph of a group.

module _ (g : Graph) (has : HasEnds g) (v : ℕ) (party : v < g.n) where
  pub inside : (k : ℕ) → k < length (arcs_with g v) → let a = get_or (arcs_with g v) k 0 in
      (a < length g.arcs) × (is_listed (ends g a).from (strong_component g v) ≡ true) × (is_listed (ends g a).to (strong_component g v) ≡ true)
  inside k lt =
      let i = in-is_listed (get_or (arcs_with g v) k 0) (arcs_with g v) (in_place (arcs_with g v) k 0 lt) in
      let m = where_among (is_inside g (strong_component g v)) (length g.arcs) (get_or (arcs_with g v) k 0) i in
      let p = and_parts _ _ m.1 in
      (m.0, p.0, p.1)

  pub own_at : (k : ℕ) → k < length (arcs_with g v) → ends (own_with g v) k ≡ own_ends (strong_component g v) (ends g (get_or (arcs_with g v) k 0))
  own_at k lt = get_or-map (λ a. own_ends (strong_component g v) (ends g a)) (arcs_with g v) k 0 (record { from = 0; to = 0 }) lt

  pub arcs_length : length (own_with g v).arcs ≡ length (arcs_with g v)
  arcs_length = length-map (arcs_with g v) (λ a. own_ends (strong_component g v) (ends g a))

  pub own_has_ends : HasEnds (own_with g v)
  own_has_ends = record {
    from = λ k l.
        let lt = within k l in let p = inside k lt in
        subst (λ (e : ArcEnds). e.from < length (strong_component g v)) (sym (own_at k lt)) (stands (strong_component g v) _ p.1).below;
    to = λ k l.
        let lt = within k l in let p = inside k lt in
        subst (λ (e : ArcEnds). e.to < length (strong_component g v)) (sym (own_at k lt)) (stands (strong_component g v) _ p.2).below;
    apart = λ k l.
        let lt = within k l in let p = inside k lt in
        subst (λ (e : ArcEnds). e.from ≢ e.to) (sym (own_at k lt)) (λ same.
        has.apart (get_or (arcs_with g v) k 0) p.0
        (sym (stands (strong_component g v) _ p.1).is ∙ ap (find_party (strong_component g v)) same ∙ (stands (strong_component g v) _ p.2).is));
  }
    where
      within : (k : ℕ) → k < length (own_with g v).arcs → k < length (arcs_with g v)
      within k l = let e = arcs_length in omega (arith, e)

  own_arc : (u w : ℕ) → is_listed u (strong_component g v) ≡ true → is_listed w (strong_component g v) ≡ true → has_arc g u w ≡ true
      → has_arc (own_with g v) (index_in_set (strong_component g v) u) (index_in_set (strong_component g v) w) ≡ true
  own_arc u w iu iw e =
      let a = arc_number g.arcs u w e in
      let here = is_listed-true a.number (arcs_with g v) (among_where (is_inside g (strong_component g v)) (length g.arcs) a.number a.stands
      (and_both (is_listed (ends g a.number).from (strong_component g v)) (is_listed (ends g a.number).to (strong_component g v))
      (subst (λ (x : ℕ). is_listed x (strong_component g v) ≡ true) (sym a.from) iu) (subst (λ (x : ℕ). is_listed x (strong_component g v)
      ≡ true) (sym a.to) iw))) in
      arc_from (own_with g v) (own_ends (strong_component g v) (ends g a.number)) (index_in_set (strong_component g v) u) (index_in_set (strong_component g v) w)
      (in_map (λ b. own_ends (strong_component g v) (ends g b)) (arcs_with g v) a.number here) (ap (index_in_set (strong_component g v)) a.from) (ap (index_in_set
      (strong_component g v)) a.to)

  -- a walk between parties of the group stays in it
  own_walk : (k u w : ℕ) → is_listed u (strong_component g v) ≡ true → is_listed w (strong_component g v) ≡ true → reaches_in_arcs g k u w ≡ true
      → reaches_in_arcs (own_with g v) k (index_in_set (strong_component g v) u) (index_in_set (strong_component g v) w) ≡ true
  own_walk zero u w iu iw r = is_there (own_with g v) 0 _ _ (ap (index_in_set (strong_component g v)) (at_once g u w r))
  own_walk (suc k) u w iu iw r = go (goes_on g k u w r) (λ x. own_walk k x w)
    where
      go : (u ≡ w) ⊎ Along g k u w
          → ((x : ℕ) → is_listed x (strong_component g v) ≡ true → is_listed w (strong_component g v) ≡ true → reaches_in_arcs g k x w ≡ true
          → reaches_in_arcs (own_with g v) k (index_in_set (strong_component g v) x) (index_in_set (strong_component g v) w) ≡ true)
          → reaches_in_arcs (own_with g v) (suc k) (index_in_set (strong_component g v) u) (index_in_set (strong_component g v) w) ≡ true
      go (inl e) rest = is_there (own_with g v) (suc k) _ _ (ap (index_in_set (strong_component g v)) e)
      go (inr a) rest =
          let mu = from_group g v u iu in
          let mw = from_group g v w iw in
          let there =
          on_to g v u a.next party (and_parts _ _ mu.1).0
          (walk_reaches g 1 u a.next mu.0 (along g 0 u a.next a.next a.party a.arc (is_there g 0 a.next a.next refl))) in
          let back = on_to g a.next w v a.party (walk_reaches g k a.next w a.party a.rest) (and_parts _ _ mw.1).1 in
          let ix = in_group g v a.next a.party (and_both _ _ there back) in
          let s = stands (strong_component g v) a.next ix in
          along (own_with g v) k (index_in_set (strong_component g v) u) (index_in_set (strong_component g v) a.next) (index_in_set (strong_component g v) w) s.below
          (own_arc u a.next iu ix a.arc) (rest a.next ix iw a.rest)

  reach_inside : (u w : ℕ) → is_listed u (strong_component g v) ≡ true → is_listed w (strong_component g v) ≡ true → reaches g u w ≡ true
  reach_inside u w iu iw =
      let mu = from_group g v u iu in
      let mw = from_group g v w iw in
      (and_parts _ _ (with_on g u v w mu.0 mw.0 (with_turn g v u mu.1) mw.1)).0

  pub own_reaches : (i j : ℕ) → i < length (strong_component g v) → j < length (strong_component g v) → reaches (own_with g v) i j ≡ true
  unfolding reaches
  own_reaches i j li lj =
      let up = where_ascends (is_with g v) g.n in
      let iu = in-is_listed (find_party (strong_component g v) i) (strong_component g v) (in_place (strong_component g v) i 0 li) in
      let iw = in-is_listed (find_party (strong_component g v) j) (strong_component g v) (in_place (strong_component g v) j 0 lj) in
      let walk = own_walk g.n (find_party (strong_component g v) i) (find_party (strong_component g v) j) iu iw (reach_inside _ _ iu iw) in
      let pi = place_back (strong_component g v) up i li in
      let pj = place_back (strong_component g v) up j lj in
      walk_reaches (own_with g v) g.n i j li
      (subst (λ (y : ℕ). reaches_in_arcs (own_with g v) g.n i y ≡ true) pj
      (subst (λ (x : ℕ). reaches_in_arcs (own_with g v) g.n x (index_in_set (strong_component g v) (find_party (strong_component g v) j)) ≡ true) pi walk))

  pub own_strong : IsStronglyConnected (own_with g v)
  own_strong i j li lj differ = let r = reaches_path (own_with g v) i j li (own_reaches i j li lj) in (r.vertices, r.between)
