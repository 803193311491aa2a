-- The groups are the parties that reach each other.
use Rattle.std.proofs.Common.{◌≡◌, ◌≢◌, ℕ, ◌<◌, ◌==◌, Bool, true, false, not, ◌&&◌, List, [], ◌∷◌, length, filter, map}
use Rattle.std.proofs.Common.{refl, sym, ap, subst, inl, inr, arith, eqb-true, eq-eqb, ne_eqb, get_or}
use Rattle.std.specs.List.Sorted.{IsStrictlyIncreasing}
use Rattle.swap_base.specs.Lists.{IsElement}
use Rattle.swap_base.proofs.Lists.{and_parts, and_both, from_filter, in_filter, from_range, in_range, in_map}
use Rattle.swap_digraph.specs.Value.{Graph}
use Rattle.swap_digraph.specs.Graph.{parties, ends, is_listed, first_is, HasEnds}
use Rattle.swap_digraph.proofs.Paths.{is_listed-true, in-is_listed}
use Rattle.digraph_check.specs.Reach.{reaches}
use Rattle.digraph_check.proofs.ListTests.{among_where, where_among, where_ascends, filter-same, same_test}
use Rattle.digraph_check.proofs.ClosedSets.{reaches_itself}
use Rattle.swap_clear.specs.declared.answer.Group.{Group}
use Rattle.swap_clear.specs.Groups.{strong_component}
use Rattle.swap_clear.specs.Together.{AreTogether, IsGroup, AreGroups}
use Rattle.swap_clear.proofs.Cyclic.{path_there, there_path, on_to, from_map, map_back}
use Rattle.swap_clear.proofs.Gathered.{arcs_with, the_group, is_head, Gathered}

-- the test by which a party is in the group of v
abbrev pub is_with : Graph → ℕ → ℕ → Bool
is_with g v w = reaches g v w && reaches g w v

abbrev pub is_inside : Graph → List ℕ → ℕ → Bool
is_inside g set a = is_listed (ends g a).from set && is_listed (ends g a).to set

module _ (g : Graph) where
  pub with_itself : (v : ℕ) → is_with g v v ≡ true
  with_itself v = and_both (reaches g v v) (reaches g v v) (reaches_itself g v) (reaches_itself g v)

  pub with_turn : (u v : ℕ) → is_with g u v ≡ true → is_with g v u ≡ true
  with_turn u v e = let k = and_parts (reaches g u v) (reaches g v u) e in and_both (reaches g v u) (reaches g u v) k.1 k.0

  pub with_on : (u v w : ℕ) → u < g.n → w < g.n → is_with g u v ≡ true → is_with g v w ≡ true → is_with g u w ≡ true
  with_on u v w lu lw e f =
      let k = and_parts (reaches g u v) (reaches g v u) e in
      let m = and_parts (reaches g v w) (reaches g w v) f in
      and_both (reaches g u w) (reaches g w u) (on_to g u v w lu k.0 m.0) (on_to g w v u lw m.1 k.1)

  pub together_of : (u w : ℕ) → u < g.n → w < g.n → is_with g u w ≡ true → AreTogether g u w
  together_of u w lu lw e = let k = and_parts (reaches g u w) (reaches g w u) e in inr (path_there g u w lu k.0, path_there g w u lw k.1)

  pub of_together : (u w : ℕ) → AreTogether g u w → is_with g u w ≡ true
  of_together u w (inl e) = subst (λ (x : ℕ). is_with g u x ≡ true) e (with_itself u)
  of_together u w (inr p) = and_both (reaches g u w) (reaches g w u) (there_path g u w p.0) (there_path g w u p.1)

  pub in_group : (v w : ℕ) → w < g.n → is_with g v w ≡ true → is_listed w (strong_component g v) ≡ true
  in_group v w lt e = among_where (is_with g v) g.n w lt e

  pub from_group : (v w : ℕ) → is_listed w (strong_component g v) ≡ true → (w < g.n) × (is_with g v w ≡ true)
  from_group v w i = where_among (is_with g v) g.n w i

  -- the group is that of any of its parties
  pub same_group : (u v : ℕ) → u < g.n → v < g.n → is_with g u v ≡ true → strong_component g u ≡ strong_component g v
  same_group u v lu lv e =
      filter-same (is_with g u) (is_with g v) (parties g) (λ x i.
      let lx = from_range x g.n i in
      same_test (is_with g u x) (is_with g v x) (λ h. with_on v u x lv lx (with_turn u v e) h) (λ h. with_on u v x lu lx e h))

  pub head_parts : (v : ℕ) → is_head g v ≡ true → (first_is v (strong_component g v) ≡ true) × (length (arcs_with g v) ≢ 0)
  head_parts v h =
      let k = and_parts (first_is v (strong_component g v)) (not (length (arcs_with g v) == 0)) h in
      (k.0, λ e. by_test (length (arcs_with g v) == 0) k.1 (eq-eqb (length (arcs_with g v)) 0 e))
    where
      by_test : (b : Bool) → not b ≡ true → b ≡ true → ⊥
      by_test true n t = cc n
      by_test false n t = cc t

  some_of : (xs : List ℕ) → length xs ≢ 0 → xs ≢ []
  some_of xs h e = h (ap length e)

  pub is_group : (v : ℕ) → v < g.n → is_head g v ≡ true → IsGroup g (the_group g v)
  is_group v lt h = record {
    ascending = where_ascends (is_with g v) g.n;
    parties = λ w i. (from_group v w i).0;
    together = λ u w i lw.
        let k = from_group v u i in (
          λ j. let m = from_group v w j in together_of u w k.0 lw (with_on u v w k.0 lw (with_turn v u k.1) m.1),
          λ t. in_group v w lw (with_on v u w lt lw k.1 (of_together u w t)),
        );
    arcs_ascend = where_ascends (is_inside g (strong_component g v)) (length g.arcs);
    arcs = λ a la. (
      λ i. and_parts (is_listed (ends g a).from (strong_component g v)) (is_listed (ends g a).to (strong_component g v))
          (where_among (is_inside g (strong_component g v)) (length g.arcs) a i).1,
      λ p. among_where (is_inside g (strong_component g v)) (length g.arcs) a la
          (and_both (is_listed (ends g a).from (strong_component g v)) (is_listed (ends g a).to (strong_component g v)) p.0 p.1),
    );
    arc = λ a i. (where_among (is_inside g (strong_component g v)) (length g.arcs) a i).0;
    some_arcs = some_of (arcs_with g v) (head_parts v h).1;
  }

  -- The least party of a group.

  first_get : (v : ℕ) (xs : List ℕ) → first_is v xs ≡ true → get_or xs 0 0 ≡ v
  first_get v [] e = absurd (cc e)
  first_get v (x ∷ xs) e = eqb-true x v e

  get_first : (xs : List ℕ) (w : ℕ) → IsElement w xs → first_is (get_or xs 0 0) xs ≡ true
  get_first [] w i = absurd i
  get_first (x ∷ xs) w i = eq-eqb x x refl

  get_in : (xs : List ℕ) (w : ℕ) → IsElement w xs → IsElement (get_or xs 0 0) xs
  get_in [] w i = absurd i
  get_in (x ∷ xs) w i = inl refl

  some_length : (xs : List ℕ) (x : ℕ) → IsElement x xs → (length xs == 0) ≡ false
  some_length [] x i = absurd i
  some_length (y ∷ xs) x i = ne_eqb (length (y ∷ xs)) 0 (λ e. absurd (omega (arith, e)))

  pub record Headed (a : ℕ) : Type 0 where
    pub head : ℕ
    pub party : head < g.n
    pub is_one : is_head g head ≡ true
    pub holds : is_listed a (arcs_with g head) ≡ true

  headed : HasEnds g → (a : ℕ) → a < length g.arcs → AreTogether g (ends g a).from (ends g a).to → Headed a
  headed has a la t =
      let u = (ends g a).from in
      let lu = has.from a la in
      let lw = has.to a la in
      let mine = in_group u u lu (with_itself u) in
      let first = get_or (strong_component g u) 0 0 in
      let stands = in-is_listed first (strong_component g u) (get_in (strong_component g u) u (is_listed-true u (strong_component g u) mine)) in
      let k = from_group u first stands in
      let same : strong_component g u ≡ strong_component g first = same_group u first lu k.0 k.1 in
      let other = in_group u (ends g a).to lw (of_together u (ends g a).to t) in
      let inside : is_listed a (arcs_with g first) ≡ true = among_where (is_inside g (strong_component g first)) (length g.arcs) a la
      (and_both (is_listed u (strong_component g first)) (is_listed (ends g a).to (strong_component g first))
      (subst (λ (xs : List ℕ). is_listed u xs ≡ true) same mine) (subst (λ (xs : List ℕ). is_listed (ends g a).to xs ≡ true) same other)) in
      record {
        head = first;
        party = k.0;
        is_one = and_both (first_is first (strong_component g first)) (not (length (arcs_with g first) == 0))
            (subst (λ (xs : List ℕ). first_is first xs ≡ true) same (get_first (strong_component g u) u (is_listed-true u (strong_component g u) mine)))
            (ap not (some_length (arcs_with g first) a (is_listed-true a (arcs_with g first) inside)));
        holds = inside;
      }

  pub record Made (group : Group) : Type 0 where
    pub head : ℕ
    pub party : head < g.n
    pub is_one : is_head g head ≡ true
    pub is : group ≡ the_group g head

  pub made : (groups : List Group) → Gathered g [] (parties g) groups → (group : Group) → IsElement group groups → Made group
  made groups k group i =
      let m = from_map (the_group g) (filter (is_head g) (parties g)) group (subst (λ (xs : List Group). IsElement group xs) k.list i) in
      let f = from_filter (is_head g) m.0 (parties g) m.1 in
      record { head = m.0; party = from_range m.0 g.n f.0; is_one = f.1; is = m.2 }

  pub are_groups : (groups : List Group) → HasEnds g → Gathered g [] (parties g) groups → AreGroups g groups
  are_groups groups has k = record {
    each = λ group i. let m = made groups k group i in subst (λ (x : Group). IsGroup g x) (sym m.is) (is_group m.head m.party m.is_one);
    ascending =
        subst (λ (xs : List Group). IsStrictlyIncreasing (map (λ (x : Group). get_or x.parties 0 0) xs)) (sym k.list)
        (subst (λ (xs : List ℕ). IsStrictlyIncreasing xs) (sym firsts) (where_ascends (is_head g) g.n));
    all = λ a la t.
        let h = headed has a la t in (
          the_group g h.head,
          subst (λ (xs : List Group). IsElement (the_group g h.head) xs) (sym k.list)
              (in_map (the_group g) (filter (is_head g) (parties g)) h.head (in_filter (is_head g) h.head (parties g) (in_range h.head g.n h.party) h.is_one)),
          h.holds,
        );
  }
    where
      firsts : map (λ (x : Group). get_or x.parties 0 0) (map (the_group g) (filter (is_head g) (parties g))) ≡ filter (is_head g) (parties g)
      firsts =
          map_back (the_group g) (λ (x : Group). get_or x.parties 0 0) (filter (is_head g) (parties g)) (λ x i.
          first_get x (strong_component g x) (head_parts x (from_filter (is_head g) x (parties g) i).1).0)
