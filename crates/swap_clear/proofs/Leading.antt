-- The leaders of a group, their cycles and the bound.
use Rattle.std.proofs.Common.{◌≡◌, ◌≢◌, ℕ, zero, suc, ◌+◌, ◌<◌, ◌≤◌, ◌==◌, Bool, true, false, not, List, [], ◌∷◌, length, map}
use Rattle.std.proofs.Common.{Option, Some, unwrap_or, refl, sym, ap, ◌∙◌, subst, arith, eqb-true, get_or}
use Rattle.std.proofs.lemmas.List.{get_or-map, length-map}
use Rattle.std.specs.List.Sorted.{IsStrictlyIncreasing}
use Rattle.swap_base.specs.Lists.{IsElement}
use Rattle.swap_base.proofs.Lists.{in_filter, from_range, in_place, list_all-in, list_all-from}
use Rattle.swap_digraph.specs.Value.{Graph}
use Rattle.swap_digraph.specs.Graph.{parties, ends, has_arc, is_listed, are_followers, HasEnds, IsFeedback, IsHeight, IsConnectingPath}
use Rattle.swap_digraph.proofs.Paths.{is_listed-true, in-is_listed, path_below, path_step}
use Rattle.digraph_check.specs.Reach.{reaches}
use Rattle.digraph_check.proofs.Paths.{reaches_path}
use Rattle.digraph_check.proofs.Walks.{arc_json, arc_number}
use Rattle.digraph_check.proofs.ListTests.{where_ascends}
use Rattle.leader_check.specs.Cycles.{traced_cycle, IsShortestFollowerCycle}
use Rattle.leader_check.specs.Levels.{greatest_level}
use Rattle.leader_check.proofs.Walks.{through}
use Rattle.leader_check.proofs.Heights.{is_height}
use Rattle.time_bounds.specs.Times.{need}
use Rattle.swap_clear.specs.Groups.{strong_component, index_in_set, find_party}
use Rattle.swap_clear.specs.Leaders.{order, other_leaders, choose_leaders, party_cycle}
use Rattle.swap_clear.specs.Led.{own_leaders, Remain, IsLed, HasCycles, NoFewerLead, IsBound}
use Rattle.swap_clear.proofs.Cyclic.{true_false, not_it, never, from_map, map_back}
use Rattle.swap_clear.proofs.Gathered.{arcs_with, own_with, the_group, is_head}
use Rattle.swap_clear.proofs.Together.{is_with, head_parts}
use Rattle.swap_clear.proofs.Places.{rises, range_up, place_back, own_has_ends, own_reaches, arcs_length}
use Rattle.swap_clear.proofs.Remaining.{is_order, all_lead, remaining_in, remaining_rises, remaining_feedback, remain_of, needed, has_cycle}

-- The leaders of a digraph.

module _ (g : Graph) where
  pub lead_in : (v : ℕ) → IsElement v (choose_leaders g) → v < g.n
  unfolding choose_leaders
  lead_in v i = from_range v g.n (remaining_in g (order g) (parties g) v i)

  pub lead_rises : IsStrictlyIncreasing (parties g) → IsStrictlyIncreasing (choose_leaders g)
  unfolding choose_leaders
  lead_rises up = remaining_rises g (order g) (parties g) up

  pub lead_feedback : IsFeedback g (choose_leaders g)
  unfolding choose_leaders
  lead_feedback = remaining_feedback g (order g) (parties g) (all_lead g)

  pub lead_remain : Remain g (parties g) (order g) (choose_leaders g)
  unfolding choose_leaders
  lead_remain = remain_of g (order g) (parties g)

  pub lead_needed : HasEnds g → (v : ℕ) → IsElement v (choose_leaders g) → IsFeedback g (other_leaders v (choose_leaders g)) → ⊥
  unfolding choose_leaders
  lead_needed has v i f =
      let tried = ((is_order g has).parties v).1 (from_range v g.n (remaining_in g (order g) (parties g) v i)) in
      needed g (order g) (parties g) v (is_listed-true v (order g) tried) i f

  pub lead_cycle : HasEnds g → (v : ℕ) → IsElement v (choose_leaders g) → (c : List ℕ) × (traced_cycle g (other_leaders v (choose_leaders g)) v ≡ Some c)
  lead_cycle has v i = has_cycle g v (choose_leaders g) lead_feedback (lead_needed has v i)

  all_follow : (p : List ℕ) → are_followers [] p ≡ true
  all_follow [] = refl
  all_follow (x ∷ p) = all_follow p

  -- where arcs lie on cycles there is a leader
  pub some_lead : HasEnds g → ((i j : ℕ) → i < g.n → j < g.n → reaches g i j ≡ true) → 0 < length g.arcs → 1 ≤ length (choose_leaders g)
  some_lead has strong some = go (choose_leaders g) refl
    where
      go : (ls : List ℕ) → choose_leaders g ≡ ls → 1 ≤ length ls
      go (x ∷ ls) e = omega arith
      go [] e =
          let u = (ends g 0).from in
          let w = (ends g 0).to in
          let r = reaches_path g w u (has.to 0 some) (strong w u (has.to 0 some) (has.from 0 some)) in
          let f = subst (λ (xs : List ℕ). IsFeedback g xs) e lead_feedback in
          absurd (true_false (has_arc g u w) (arc_json g.arcs 0 some) (f w u r.vertices r.between (all_follow r.vertices)))

  -- an arc that leaves the first of a path
  record Leaves (v : ℕ) : Type 0 where
    pub number : ℕ
    pub stands : number < length g.arcs
    pub from : (ends g number).from ≡ v

  leaves : (v x : ℕ) (p : List ℕ) → IsConnectingPath g v x p → v ≢ x → Leaves v
  leaves v x [] b differ = absurd (cc b.0)
  leaves v x (y ∷ []) b differ = absurd (differ (sym (eqb-true y v b.1) ∙ eqb-true y x b.2))
  leaves v x (y ∷ z ∷ p) b differ =
      let s = path_step g y z p b.0 in
      let a = arc_number g.arcs y z s.arc in
      record { number = a.number; stands = a.stands; from = a.from ∙ eqb-true y v b.1 }

  pub two_arcs : HasEnds g → ((i j : ℕ) → i < g.n → j < g.n → reaches g i j ≡ true) → 0 < length g.arcs → 2 ≤ length g.arcs
  two_arcs has strong some =
      let lu = has.from 0 some in
      let lw = has.to 0 some in
      let r = reaches_path g (ends g 0).to (ends g 0).from lw (strong (ends g 0).to (ends g 0).from lw lu) in
      let a = leaves (ends g 0).to (ends g 0).from r.vertices r.between (λ s. has.apart 0 some (sym s)) in
      by_number a.number a.stands (λ e. has.apart 0 some (ap (λ (k : ℕ). (ends g k).from) (sym e) ∙ a.from))
    where
      by_number : (k : ℕ) → k < length g.arcs → (k ≡ 0 → ⊥) → 2 ≤ length g.arcs
      by_number zero lt differ = absurd (differ refl)
      by_number (suc k) lt differ = omega (arith, lt)

  pub two_parties : HasEnds g → 0 < length g.arcs → 2 ≤ g.n
  two_parties has some =
      let lu = has.from 0 some in
      let lw = has.to 0 some in
      by_ends (ends g 0).from (ends g 0).to g.n lu lw (has.apart 0 some)
    where
      by_ends : (u w n : ℕ) → u < n → w < n → u ≢ w → 2 ≤ n
      by_ends u w n lu lw differ = grind (arith, lu, lw, differ)

-- The leaders of a group.

module _ (g : Graph) (has : HasEnds g) (v : ℕ) (party : v < g.n) (head : is_head g v ≡ true) (few : length (choose_leaders (own_with g v)) ≤ 8) where
  pub set_rises : IsStrictlyIncreasing (strong_component g v)
  set_rises = where_ascends (is_with g v) g.n

  pub own_places : own_leaders (the_group g v) ≡ choose_leaders (own_with g v)
  own_places =
      map_back (find_party (strong_component g v)) (index_in_set (strong_component g v)) (choose_leaders (own_with g v)) (λ k i.
      place_back (strong_component g v) set_rises k (lead_in (own_with g v) k i))

  pub own_some : 0 < length (own_with g v).arcs
  own_some = let e = arcs_length g has v party in let h = (head_parts g v head).1 in by_length (length (arcs_with g v)) e h
    where
      by_length : (n : ℕ) → length (own_with g v).arcs ≡ n → n ≢ 0 → 0 < length (own_with g v).arcs
      by_length zero e h = absurd (h refl)
      by_length (suc n) e h = omega (arith, e)

  pub own_up : IsStrictlyIncreasing (choose_leaders (own_with g v))
  own_up = lead_rises (own_with g v) (range_up (length (strong_component g v)))

  named_rises : (xs : List ℕ) → IsStrictlyIncreasing xs → ((k : ℕ) → IsElement k xs → k < length (strong_component g v))
      → IsStrictlyIncreasing (map (find_party (strong_component g v)) xs)
  named_rises xs up below k lt =
      let l : length (map (find_party (strong_component g v)) xs) ≡ length xs = length-map xs (find_party (strong_component g v)) in
      let a = get_or-map (find_party (strong_component g v)) xs k 0 0 (omega (arith, l)) in
      let b = get_or-map (find_party (strong_component g v)) xs (k + 1) 0 0 (omega (arith, l)) in
      let r = rises (strong_component g v) set_rises (get_or xs k 0) (get_or xs (k + 1) 0) (up k (omega (arith, l)))
      (below (get_or xs (k + 1) 0) (in_place xs (k + 1) 0 (omega (arith, l)))) in
      omega (arith, a, b, r)

  pub is_led : IsLed g (the_group g v)
  is_led = record {
    ascending = named_rises (choose_leaders (own_with g v)) own_up (lead_in (own_with g v));
    among = λ w i.
        let m =
        from_map (find_party (strong_component g v)) (choose_leaders (own_with g v)) w
        (is_listed-true w (map (find_party (strong_component g v)) (choose_leaders (own_with g v))) i) in
        in-is_listed w (strong_component g v) (subst (λ (x : ℕ). IsElement x (strong_component g v)) (sym m.2)
        (in_place (strong_component g v) m.0 0 (lead_in (own_with g v) m.0 m.1)));
    order = order (own_with g v);
    is_order = is_order (own_with g v) (own_has_ends g has v party);
    remain = subst (λ (xs : List ℕ). Remain (own_with g v) (parties (own_with g v)) (order (own_with g v)) xs) (sym own_places) (lead_remain (own_with g v));
    feedback = subst (λ (xs : List ℕ). IsFeedback (own_with g v) xs) (sym own_places) (lead_feedback (own_with g v));
    few =
        let l : length (map (find_party (strong_component g v)) (choose_leaders (own_with g v))) ≡ length (choose_leaders (own_with g v)) =
        length-map (choose_leaders (own_with g v)) (find_party (strong_component g v)) in
        let s = some_lead (own_with g v) (own_has_ends g has v party) (own_reaches g has v party) own_some in
        (omega (arith, l, s), omega (arith, l, few));
  }

  -- The cycles.

  pub cycle_is : (k : ℕ) → IsElement k (choose_leaders (own_with g v))
      → IsShortestFollowerCycle (own_with g v) (other_leaders k (choose_leaders (own_with g v))) k (party_cycle (own_with g v) (choose_leaders (own_with g v)) k)
  cycle_is k i =
      let c = lead_cycle (own_with g v) (own_has_ends g has v party) k i in
      subst (λ (xs : List ℕ). IsShortestFollowerCycle (own_with g v) (other_leaders k (choose_leaders (own_with g v))) k xs)
      (sym (ap (λ (o : Option (List ℕ)). unwrap_or o []) c.1)) (through (own_with g v) (other_leaders k (choose_leaders (own_with g v))) k c.0 c.1)

  cycle_below : (k x : ℕ) → IsElement k (choose_leaders (own_with g v)) → IsElement x (party_cycle (own_with g v) (choose_leaders (own_with g v)) k)
      → x < length (strong_component g v)
  cycle_below k x i j = path_below (own_with g v) (party_cycle (own_with g v) (choose_leaders (own_with g v)) k) x (cycle_is k i).path.0 j

  pub has_cycles : HasCycles g (the_group g v)
  has_cycles = record {
    one_each =
        length-map (choose_leaders (own_with g v)) (λ k. map (find_party (strong_component g v)) (party_cycle (own_with g v) (choose_leaders (own_with g v)) k))
        ∙ sym (length-map (choose_leaders (own_with g v)) (find_party (strong_component g v)));
    parties = λ list w i j.
        let m = from_map (λ k. map (find_party (strong_component g v)) (party_cycle (own_with g v) (choose_leaders (own_with g v)) k)) (choose_leaders
        (own_with g v)) list i in
        let n = from_map (find_party (strong_component g v)) (party_cycle (own_with g v) (choose_leaders (own_with g v)) m.0) w
        (subst (λ (xs : List ℕ). IsElement w xs) m.2 (is_listed-true w list j)) in
        in-is_listed w (strong_component g v) (subst (λ (x : ℕ). IsElement x (strong_component g v)) (sym n.2)
        (in_place (strong_component g v) n.0 0 (cycle_below m.0 n.0 m.1 n.1)));
    cycle = λ i lt.
        let l : length (map (find_party (strong_component g v)) (choose_leaders (own_with g v))) ≡ length (choose_leaders (own_with g v)) =
        length-map (choose_leaders (own_with g v)) (find_party (strong_component g v)) in
        let low : i < length (choose_leaders (own_with g v)) = omega (arith, l, lt) in
        at_place i low;
  }
    where
      at_place : (i : ℕ) → i < length (choose_leaders (own_with g v))
          → IsShortestFollowerCycle (own_with g v) (other_leaders (get_or (own_leaders (the_group g v)) i 0) (own_leaders (the_group g v)))
          (get_or (own_leaders (the_group g v)) i 0) (map (index_in_set (strong_component g v)) (get_or (the_group g v).cycles i []))
      at_place i low =
          let k = get_or (choose_leaders (own_with g v)) i 0 in
          let stands = in_place (choose_leaders (own_with g v)) i 0 low in
          let back : map (index_in_set (strong_component g v)) (get_or (the_group g v).cycles i []) ≡ party_cycle (own_with g v) (choose_leaders (own_with g v)) k =
          ap (map (index_in_set (strong_component g v)))
          (get_or-map (λ (j : ℕ). map (find_party (strong_component g v)) (party_cycle (own_with g v) (choose_leaders (own_with g v)) j))
          (choose_leaders (own_with g v)) i 0 [] low)
          ∙ map_back (find_party (strong_component g v)) (index_in_set (strong_component g v)) (party_cycle (own_with g v) (choose_leaders (own_with g v)) k) (λ x j.
          place_back (strong_component g v) set_rises x (cycle_below k x stands j)) in
          subst (λ (xs : List ℕ). IsShortestFollowerCycle (own_with g v) (other_leaders (get_or xs i 0) xs) (get_or xs i 0)
          (map (index_in_set (strong_component g v)) (get_or (the_group g v).cycles i []))) (sym own_places)
          (subst (λ (c : List ℕ). IsShortestFollowerCycle (own_with g v) (other_leaders k (choose_leaders (own_with g v))) k c) (sym back) (cycle_is k stands))

  -- No fewer lead.

  pub no_fewer : NoFewerLead g (the_group g v)
  no_fewer =
      subst (λ (ls : List ℕ). (part : List ℕ) → ((w : ℕ) → is_listed w part ≡ true → is_listed w ls ≡ true) → IsFeedback (own_with g v) part
      → (w : ℕ) → is_listed w ls ≡ true → is_listed w part ≡ true) (sym own_places) fewer_fail
    where
      fewer_fail : (part : List ℕ) → ((w : ℕ) → is_listed w part ≡ true → is_listed w (choose_leaders (own_with g v)) ≡ true) → IsFeedback (own_with g v) part
          → (w : ℕ) → is_listed w (choose_leaders (own_with g v)) ≡ true → is_listed w part ≡ true
      fewer_fail part within f w i = by_test (is_listed w part) refl
        where
          by_test : (b : Bool) → is_listed w part ≡ b → is_listed w part ≡ true
          by_test true e = e
          by_test false e =
              let c = cycle_is w (is_listed-true w (choose_leaders (own_with g v)) i) in
              let o = list_all-from (λ x. not (is_listed x part)) (party_cycle (own_with g v) (choose_leaders (own_with g v)) w) (λ x j.
              ap not (never (is_listed x part) (λ h.
              not_it (is_listed x (other_leaders w (choose_leaders (own_with g v))))
              (list_all-in (λ y. not (is_listed y (other_leaders w (choose_leaders (own_with g v)))))
              (party_cycle (own_with g v) (choose_leaders (own_with g v)) w) x c.followers j)
              (in-is_listed x (other_leaders w (choose_leaders (own_with g v)))
              (in_filter (λ y. not (y == w)) x (choose_leaders (own_with g v)) (is_listed-true x (choose_leaders (own_with g v)) (within x h))
              (ap not (never (x == w) (λ s. true_false (is_listed w part) (subst (λ (z : ℕ). is_listed z part ≡ true) (eqb-true x w s) h) e)))))))) in
              absurd (true_false (has_arc (own_with g v) c.last w) c.closes
              (f w c.last (party_cycle (own_with g v) (choose_leaders (own_with g v)) w) c.path o))

  -- The bound.

  pub is_bound : IsBound g (the_group g v)
  is_bound = record {
    height = greatest_level (own_with g v) (choose_leaders (own_with g v));
    is_height =
        subst (λ (xs : List ℕ). IsHeight (own_with g v) xs (greatest_level (own_with g v) (choose_leaders (own_with g v)))) (sym own_places)
        (is_height (own_with g v) (choose_leaders (own_with g v)) (lead_feedback (own_with g v)));
    need = ap (λ (n : ℕ). need (length (strong_component g v)) n (greatest_level (own_with g v) (choose_leaders (own_with g v))))
        (sym (length-map (choose_leaders (own_with g v)) (find_party (strong_component g v))));
  }
