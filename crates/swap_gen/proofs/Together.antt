-- The deal that a number gives, put together.
use Rattle.std.proofs.Common.{◌≡◌, ℕ, ◌-◌, ◌≤◌, List, [], length, map, replicate, None, ap, ◌∙◌, arith}
use Rattle.std.specs.List.{range_with_len}
use Rattle.swap_digraph.specs.Value.{Graph}
use Rattle.swap_digraph.specs.Arcs.{first_fault}
use Rattle.swap_digraph.specs.declared.arc_ends.ArcEnds.{ArcEnds}
use Rattle.swap_digraph.specs.declared.deal.Deal.{Deal}
use Rattle.swap_digraph.specs.declared.deal.Mode.TheVariants.{Hashkeys}
use Rattle.swap_digraph.specs.declared.deal.Version.TheVariants.{One}
use Rattle.swap_gen.specs.Drawn.{leader_count, drawn_arcs, drawn_graph, drawn_amount, plain_deal}
use Rattle.swap_gen.proofs.Rings.{arcs_are_sound, arcs_have_ring}

pub few_arcs : (seed n : ℕ) (xs : List ArcEnds) → n ≤ 24 → xs ≡ drawn_arcs seed n → length xs ≤ 48
few_arcs seed n xs few e = let r = (arcs_have_ring seed n).few in let same : length xs ≡ length (drawn_arcs seed n) =
    ap length e in omega (arith, r, same, few)

pub faultless_arcs : (seed n : ℕ) (xs : List ArcEnds) → 2 ≤ n → xs ≡ drawn_arcs seed n → first_fault n One xs ≡ None
faultless_arcs seed n xs many e = ap (first_fault n One) e ∙ (arcs_are_sound seed n many).faultless

abbrev pub graph_with : ℕ → List ArcEnds → Graph
graph_with n xs = record { n = n; arcs = xs }

abbrev pub inside_deal : ℕ → Graph → List ℕ → List ℕ → List (List ℕ) → List (List (List ℕ)) → List ℕ → Deal
inside_deal n g leaders amounts hashlocks keys timelocks = record {
  version = One;
  graph = g;
  leaders = leaders;
  start = 20;
  delta = 20;
  bound = n - 1;
  mode = Hashkeys;
  amounts = amounts;
  hashlocks = hashlocks;
  keys = keys;
  timelocks = timelocks;
  id = replicate 32 0;
}

pub deal_is : (seed n : ℕ) (g : Graph) (leaders amounts : List ℕ) (hashlocks : List (List ℕ)) (keys : List (List (List ℕ))) (timelocks : List ℕ)
    → g ≡ drawn_graph seed n → leaders ≡ range_with_len 0 (leader_count seed n)
    → amounts ≡ map (drawn_amount seed n) (range_with_len 0 (length (drawn_arcs seed n)))
    → hashlocks ≡ [] → keys ≡ [] → timelocks ≡ [] → inside_deal n g leaders amounts hashlocks keys timelocks ≡ plain_deal seed n
unfolding plain_deal
deal_is seed n g ls am hs ks ts eg el ea eh ek et =
    ap (λ x. inside_deal n x ls am hs ks ts) eg
    ∙ ap (λ x. inside_deal n (drawn_graph seed n) x am hs ks ts) el
    ∙ ap (λ x. inside_deal n (drawn_graph seed n) (range_with_len 0 (leader_count seed n)) x hs ks ts) ea
    ∙ ap (λ x. inside_deal n (drawn_graph seed n) (range_with_len 0 (leader_count seed n))
    (map (drawn_amount seed n) (range_with_len 0 (length (drawn_arcs seed n)))) x ks ts) eh
    ∙ ap (λ x. inside_deal n (drawn_graph seed n) (range_with_len 0 (leader_count seed n))
    (map (drawn_amount seed n) (range_with_len 0 (length (drawn_arcs seed n)))) [] x ts) ek
    ∙ ap (λ x. inside_deal n (drawn_graph seed n) (range_with_len 0 (leader_count seed n))
    (map (drawn_amount seed n) (range_with_len 0 (length (drawn_arcs seed n)))) [] [] x) et
