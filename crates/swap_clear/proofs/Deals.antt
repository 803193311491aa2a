-- A group makes a deal that is accepted.
use Rattle.std.proofs.Common.{◌≡◌, true, ℕ, ◌+◌, ◌-◌, ◌*◌, ◌<◌, ◌≤◌, min, List, length, refl, sym, ◌∙◌, subst, arith, get_or}
use Rattle.std.proofs.lemmas.List.{get_or-map, length-map}
use Rattle.swap_base.proofs.Lists.{in_place}
use Rattle.swap_digraph.specs.Graph.{HasEnds}
use Rattle.time_bounds.specs.Times.{need}
use Rattle.leader_check.specs.Levels.{greatest_level}
use Rattle.leader_check.proofs.Heights.{is_height}
use Rattle.swap_clear.specs.declared.proposed.Proposed.{Proposed}
use Rattle.swap_clear.specs.Proposals.{resolve_arc_ends, proposed_graph}
use Rattle.swap_clear.specs.Groups.{strong_component}
use Rattle.swap_clear.specs.Leaders.{choose_leaders}
use Rattle.swap_clear.specs.Ready.{IsReady, proposed_amount, own_amounts, MakesADeal, AreAmounts}
use Rattle.swap_clear.proofs.Gathered.{arcs_with, own_with, the_group, is_head}
use Rattle.swap_clear.proofs.Places.{apart, inside, own_has_ends, own_reaches, own_strong, arcs_length}
use Rattle.swap_clear.proofs.Leading.{lead_in, lead_feedback, some_lead, two_arcs, two_parties, own_places, own_some, own_up}
use Rattle.swap_clear.proofs.Sizes.{set_few, arcs_few}

-- what the bound is at most
low : (a b : ℕ) → min a b ≤ a
low a b = grind arith

within_64 : (n l h : ℕ) → n ≤ 32 → need n l h ≤ 64
within_64 n l h few = let m = low (n - 1) (l * (h + 1) - 1) in at_most (min (n - 1) (l * (h + 1) - 1)) m
  where
    at_most : (k : ℕ) → k ≤ n - 1 → k ≤ 64
    at_most k le = omega (arith, le, few)

same_low : (a b : ℕ) → a ≡ b → a ≤ b
same_low a b e = omega (arith, e)

pub makes_a_deal : (n : ℕ) (arcs : List Proposed) → n ≤ 32 → length arcs ≤ 128 → AreAmounts arcs → (has : HasEnds (proposed_graph n arcs)) → (v : ℕ)
    → (party : v < n) → (head : is_head (proposed_graph n arcs) v ≡ true) → (few : length (choose_leaders (own_with (proposed_graph n arcs) v)) ≤ 8)
    → MakesADeal (proposed_graph n arcs) arcs (the_group (proposed_graph n arcs) v)
makes_a_deal n arcs small short amounts has v party head few start delta d s =
    let g = proposed_graph n arcs in
    let o = own_with g v in
    let ends = own_has_ends g has v party in
    let some = own_some g has v party head few in
    let strong = own_reaches g has v party in
    let size = set_few g v (strong_component g v) refl in
    let arcs_size = arcs_few g (strong_component g v) (arcs_with g v) refl in
    let listed : length g.arcs ≡ length arcs = length-map arcs resolve_arc_ends in
    let own_arcs = arcs_length g has v party in
    subst (λ (ls : List ℕ). IsReady (own_with (proposed_graph n arcs) v) ls start delta (the_group (proposed_graph n arcs) v).bound
    (own_amounts arcs (the_group (proposed_graph n arcs) v))) (sym (own_places g has v party head few))
    (record {
      parties = (two_parties o ends some, omega (arith, size, small));
      arcs = (two_arcs o ends strong some, omega (arith, arcs_size, listed, own_arcs, short));
      ends = ends;
      strong = own_strong g has v party;
      leaders = (some_lead o ends strong some, few);
      leader = λ i lt. lead_in o (get_or (choose_leaders o) i 0) (in_place (choose_leaders o) i 0 lt);
      apart = λ i j li lj e. apart (choose_leaders o) (own_up g has v party head few) i j li lj e;
      feedback = lead_feedback o;
      height = greatest_level o (choose_leaders o);
      is_height = is_height o (choose_leaders o) (lead_feedback o);
      delta = d;
      start = s;
      bound = (
        same_low _ _ refl,
        within_64 (length (strong_component g v)) (length (choose_leaders o)) (greatest_level o (choose_leaders o)) (omega
            (arith, size, small)),
      );
      one_amount_each = length-map (arcs_with g v) (proposed_amount arcs) ∙ sym own_arcs;
      amounts = λ a lt.
          let l : a < length (arcs_with g v) = omega (arith, own_arcs, lt) in
          let e = get_or-map (proposed_amount arcs) (arcs_with g v) a 0 0 l in
          let i = (inside g has v party a l).0 in
          let m = amounts (get_or (arcs_with g v) a 0) (omega (arith, i, listed)) in
          (omega (arith, e, m.0), rw e m.1);
    })
