-- The events that a number gives may come in a world of its job.
use Rattle.std.proofs.Common.{◌≡◌, ℕ, suc, ◌-◌, ◌%◌, ◌<◌, ◌≤◌, ◌==◌, ◌||◌, nat_le, Bool, true, false, cond, List, [], ◌∷◌, length}
use Rattle.std.proofs.Common.{filter, get_or, sym, ap, subst, inl, inr, arith, eq-eqb}
use Rattle.std.proofs.Math.Nat.{mod-lt}
use Rattle.swap_base.specs.Lists.{IsElement}
use Rattle.swap_base.proofs.Lists.{from_filter, in_filter, from_range, in_range, in_place}
use Rattle.swap_digraph.specs.Graph.{arcs, ends}
use Rattle.swap_digraph.specs.Value.{Graph}
use Rattle.swap_digraph.specs.declared.arc_ends.ArcEnds.{ArcEnds}
use Rattle.swap_digraph.specs.declared.deal.Deal.{Deal}
use Rattle.swap_job.specs.declared.event.Event.{Event}
use Rattle.swap_job.specs.declared.event.Event.TheVariants.{Tick, Look, Act}
use Rattle.swap_job.specs.Crafted.{Seeds}
use Rattle.swap_job.specs.Step.{CanStep, CanLook}
use Rattle.digraph_check.proofs.ListTests.{or-left}
use Rattle.swap_gen.specs.Word.{word, next}
use Rattle.swap_gen.specs.Drawn.{ring_arc, drawn_arcs, drawn_graph}
use Rattle.swap_gen.specs.Events.{touching, picked, drawn_event}
use Rattle.swap_gen.proofs.Places.{no_arc}
use Rattle.swap_gen.proofs.Rings.{arcs_have_ring}

-- An element's place.

pub find_place : {A : Type 0} (xs : List A) (x d : A) → IsElement x xs → (i : ℕ) × (i < length xs) × (get_or xs i d ≡ x)
find_place [] x d i = absurd i
find_place (y ∷ xs) x d (inl e) = (0, omega arith, sym e)
find_place (y ∷ xs) x d (inr i) = let r = find_place xs x d i in (suc r.0, omega arith, r.2)

some_in : {A : Type 0} (xs : List A) (x : A) → IsElement x xs → 0 < length xs
some_in [] x i = absurd i
some_in (y ∷ xs) x i = omega arith

-- Every party has an arc that touches it.

pub touching_some : (seed n p : ℕ) → p < n → 0 < length (touching (drawn_graph seed n) p)
touching_some seed n p lt =
    let g : Graph = drawn_graph seed n in
    let r = find_place (drawn_arcs seed n) (ring_arc n p) no_arc ((arcs_have_ring seed n).ring p lt) in
    let from : p ≡ (ends g r.0).from = sym (ap (λ (a : ArcEnds). a.from) r.2) in
    let passes : ((p == (ends g r.0).from) || (p == (ends g r.0).to)) ≡ true =
    or-left (p == (ends g r.0).from) (p == (ends g r.0).to) (eq-eqb p (ends g r.0).from from) in
    some_in (touching g p) r.0 (in_filter (λ a. (p == (ends g a).from) || (p == (ends g a).to)) r.0 (arcs g) (in_range r.0 (length (drawn_arcs seed n)) r.1)
    passes)

pub length-filter : (p : ℕ → Bool) (xs : List ℕ) → length (filter p xs) ≤ length xs
length-filter p [] = omega arith
length-filter p (x ∷ xs) = go (p x) (length-filter p xs)
  where
    go : (b : Bool) → length (filter p xs) ≤ length xs → length (cond b (x ∷ filter p xs) (filter p xs)) ≤ suc (length xs)
    go true le = omega arith
    go false le = omega arith

pub picked_touches : (g : Graph) (p w : ℕ) → 0 < length (touching g p)
    → (picked (touching g p) w < length g.arcs) × (((p == (ends g (picked (touching g p) w)).from) || (p == (ends g (picked (touching g p) w)).to)) ≡ true)
picked_touches g p w some =
    let i = in_place (touching g p) (w % length (touching g p)) 0 (mod-lt w some) in
    let r = from_filter (λ a. (p == (ends g a).from) || (p == (ends g a).to)) (picked (touching g p) w) (arcs g) i in
    (from_range (picked (touching g p) w) (length g.arcs) r.0, r.1)

-- Steps.

module _ (d : Deal) (conforming : List Bool) (seeds : Seeds) (seed n : ℕ) (many : 2 ≤ n) (graph : d.graph ≡ drawn_graph seed n) where
  pub event_steps : (k : ℕ) → CanStep d conforming seeds (drawn_event seed (drawn_graph seed n) k).0
  unfolding drawn_event
  event_steps k = by_kind (word seed k % 8 == 0) (nat_le (word seed k % 8) 4)
    where
      g : Graph
      g = drawn_graph seed n

      by_kind : (tick look : Bool) → CanStep d conforming seeds (cond {A =
          Event × ℕ} tick (Tick (word seed (next k) % length (drawn_arcs seed n)) 1, next (next k))
          (cond {A = Event × ℕ} look (
            Look (word seed (next k) % n)
                (picked (touching (drawn_graph seed n) (word seed (next k) % n)) (word seed (next (next k)))),
            next (next (next k)),
          )
          (Act (word seed (next k) % n), next (next k)))).0
      by_kind true look =
          let m = (arcs_have_ring seed n).many in
          let lt : word seed (next k) % length (drawn_arcs seed n) < length (drawn_arcs seed n) = mod-lt (word seed (next k)) (omega arith) in
          record {
            arc = subst (λ (x : Graph). word seed (next k) % length (drawn_arcs seed n) < length x.arcs) (sym graph) lt;
            some = omega arith;
            few =
                omega arith;
          }
      by_kind false true =
          let lt : word seed (next k) % n < n = mod-lt (word seed (next k)) (omega arith) in
          let r = picked_touches (drawn_graph seed n) (word seed (next k) % n) (word seed (next (next k)))
          (touching_some seed n (word seed (next k) % n) lt) in
          subst (λ (x : Graph). CanLook (record d { graph = x }) (word seed (next k) % n)
          (picked (touching (drawn_graph seed n) (word seed (next k) % n)) (word seed (next (next k))))) (sym graph)
          (record { known = lt; arc = r.0; adjacent = r.1 })
      by_kind false false =
          let lt : word seed (next k) % n < n = mod-lt (word seed (next k)) (omega arith) in
          subst (λ (x : Graph). word seed (next k) % n < x.n) (sym graph) lt
