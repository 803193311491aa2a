-- The arcs of a ring with those that are drawn.
use Rattle.std.proofs.Common.{◌≡◌, ◌⊎◌, ℕ, zero, suc, ◌+◌, ◌-◌, ◌%◌, ◌<◌, ◌≤◌, ◌==◌, nat_lt, Bool, true, false, cond, min, not, ◌&&◌, ◌||◌, List, []}
use Rattle.std.proofs.Common.{◌∷◌, ◌++◌, length, map, refl, sym, ap, ◌∙◌, subst, inl, inr, arith, eqb-true, ltb-true, length-append}
use Rattle.std.specs.List.{list_any, range_with_len}
use Rattle.std.proofs.Math.Nat.{mod-lt, mod-eq_of_lt, mod_self, min-le_left, min-le_right, le-min}
use Rattle.std.proofs.lemmas.Bool.{eqb-false, cases_lt, not-true}
use Rattle.std.proofs.lemmas.List.FromFn.{length-map-range_with_len, map-range_with_len_more}
use Rattle.swap_base.specs.Lists.{IsElement}
use Rattle.swap_base.proofs.Lists.{and_parts, in_append, in_map, in_range, from_range}
use Rattle.swap_digraph.specs.Arcs.{same_ends}
use Rattle.swap_digraph.specs.declared.arc_ends.ArcEnds.{ArcEnds}
use Rattle.digraph_check.proofs.ListTests.{passing, or_split}
use Rattle.swap_gen.specs.Word.{word}
use Rattle.swap_gen.specs.Drawn.{leader_count, ring_arc, ring, drawn_ends, is_added, with_arc, drawn_arcs_so_far, drawn_arcs}
use Rattle.swap_gen.proofs.Places.{from_map}
use Rattle.swap_gen.proofs.Sound.{IsRising, AreSound, sound_none, sound_more}

-- The number of leaders.

pub record IsLow (leaders n : ℕ) : Type 0 where
  pub some : 1 ≤ leaders
  pub few : leaders ≤ 3
  pub below : leaders < n

pub leaders_are_low : (seed n : ℕ) → 2 ≤ n → IsLow (leader_count seed n) n
unfolding leader_count
leaders_are_low seed n many =
    let m : ℕ = 3 in
    let some : 0 < min 3 (n - 1) = le-min {k = 1} {a = 3} {b = n - 1} (omega arith) (omega arith) in
    let lt = mod-lt (word seed 0) some in
    let a = min-le_left 3 (n - 1) in
    let b = min-le_right 3 (n - 1) in
    record { some = omega arith; few = omega (arith, lt, a); below = omega (arith, lt, b) }

-- The ring.

ring_to : (n i : ℕ) → i < n → (((i + 1) % n ≡ i + 1) × (i + 1 < n)) ⊎ (((i + 1) % n ≡ 0) × (i + 1 ≡ n))
ring_to n i lt = go (cases_lt (i + 1) n)
  where
    go : (i + 1 < n) ⊎ (n ≤ i + 1) → (((i + 1) % n ≡ i + 1) × (i + 1 < n)) ⊎ (((i + 1) % n ≡ 0) × (i + 1 ≡ n))
    go (inl p) = inl (mod-eq_of_lt p, p)
    go (inr q) = let e : i + 1 ≡ n = omega arith in inr (ap (λ k. k % n) e ∙ mod_self n, e)

pub ring_rises : (leaders n i : ℕ) → 1 ≤ leaders → 2 ≤ n → i < n → IsRising leaders n (ring_arc n i)
ring_rises leaders n i some many lt = go (ring_to n i lt)
  where
    go : (((i + 1) % n ≡ i + 1) × (i + 1 < n)) ⊎ (((i + 1) % n ≡ 0) × (i + 1 ≡ n)) → IsRising leaders n (ring_arc n i)
    go (inl p) = let e = p.0 in record { from = lt; to = rw e p.1; apart = λ s. let t : i ≡ i + 1 = s ∙ e in omega arith; rises = λ f t. rw e (omega arith) }
    go (inr q) = let e = q.0 in record {
      from = lt;
      to = rw e (omega arith);
      apart = λ s. let t : i ≡ 0 = s
          ∙ e in let u = q.1 in omega arith;
      rises = λ f t. let u : leaders ≤ 0 = rw e at t in absurd (omega arith);
    }

-- an arc of the ring isn't among those before it
ring_fresh : (n k : ℕ) (b : Bool) → list_any (same_ends (ring_arc n k)) (map (ring_arc n) (range_with_len 0 k)) ≡ b → b ≡ false
ring_fresh n k false e = refl
ring_fresh n k true e =
    let p = passing (same_ends (ring_arc n k)) (map (ring_arc n) (range_with_len 0 k)) e in
    let r = from_map (ring_arc n) (range_with_len 0 k) p.one p.stands in
    let below : r.0 < k = from_range r.0 k r.1 in
    let same : k ≡ p.one.from = eqb-true k p.one.from (and_parts (k == p.one.from) ((k + 1) % n == p.one.to) p.passes).0 in
    let one : p.one.from ≡ r.0 = ap (λ (a : ArcEnds). a.from) r.2 in
    absurd (omega (arith, same, one))

rings : (leaders n k : ℕ) → 1 ≤ leaders → 2 ≤ n → k ≤ n → AreSound leaders n (map (ring_arc n) (range_with_len 0 k))
rings leaders n zero some many le = sound_none leaders n
rings leaders n (suc k) some many le =
    let e : map (ring_arc n) (range_with_len 0 (k + 1)) ≡ map (ring_arc n) (range_with_len 0 k) ++ ring_arc n k ∷ [] =
    map-range_with_len_more (ring_arc n) 0 k k (omega arith) in
    let s : k + 1 ≡ suc k = omega arith in
    let both : map (ring_arc n) (range_with_len 0 (suc k)) ≡ map (ring_arc n) (range_with_len 0 k) ++ ring_arc n k ∷ [] =
    ap (λ j. map (ring_arc n) (range_with_len 0 j)) (sym s) ∙ e in
    subst (AreSound leaders n) (sym both)
    (sound_more leaders n (map (ring_arc n) (range_with_len 0 k)) (ring_arc n k) (rings leaders n k some many (omega arith))
    (ring_rises leaders n k some many (omega arith)) (ring_fresh n k (list_any (same_ends (ring_arc n k)) (map (ring_arc n) (range_with_len 0 k))) refl))

-- Arcs that are drawn.

rising_of : (leaders n : ℕ) (a : ArcEnds) → a.from < n → a.to < n → not (a.from == a.to) ≡ true
    → (nat_lt a.from leaders || nat_lt a.to leaders || nat_lt a.from a.to) ≡ true → IsRising leaders n a
rising_of leaders n a from to apart up = record {
  from = from;
  to = to;
  apart = eqb-false a.from a.to (not-true (a.from == a.to) apart);
  rises =
      λ f t. go f t (or_split (nat_lt a.from leaders || nat_lt a.to leaders) (nat_lt a.from a.to) up);
}
  where
    low : leaders ≤ a.from → leaders ≤ a.to → (nat_lt a.from leaders ≡ true) ⊎ (nat_lt a.to leaders ≡ true) → a.from < a.to
    low f t (inl e) = let p = ltb-true a.from leaders e in absurd (omega arith)
    low f t (inr e) = let p = ltb-true a.to leaders e in absurd (omega arith)

    go : leaders ≤ a.from → leaders ≤ a.to → ((nat_lt a.from leaders || nat_lt a.to leaders) ≡ true) ⊎ (nat_lt a.from a.to ≡ true) → a.from < a.to
    go f t (inl e) = low f t (or_split (nat_lt a.from leaders) (nat_lt a.to leaders) e)
    go f t (inr e) = ltb-true a.from a.to e

pub sound_with : (leaders n : ℕ) (xs : List ArcEnds) (a : ArcEnds) → AreSound leaders n xs → a.from < n → a.to < n
    → AreSound leaders n (with_arc leaders xs a)
unfolding with_arc
sound_with leaders n xs a h from to = go (is_added leaders xs a) refl
  where
    go : (b : Bool) → is_added leaders xs a ≡ b → AreSound leaders n (cond b (xs ++ a ∷ []) xs)
    go false e = h
    go true e =
        let both = and_parts (not (a.from == a.to) && not (list_any (same_ends a) xs)) (nat_lt a.from leaders || nat_lt a.to leaders || nat_lt a.from a.to)
        e in
        let two = and_parts (not (a.from == a.to)) (not (list_any (same_ends a) xs)) both.0 in
        sound_more leaders n xs a h (rising_of leaders n a from to two.0 both.1) (not-true (list_any (same_ends a) xs) two.1)

after_sound : (seed n k : ℕ) → 2 ≤ n → AreSound (leader_count seed n) n (drawn_arcs_so_far seed n k)
after_sound seed n zero many = rings (leader_count seed n) n n (leaders_are_low seed n many).some many (omega arith)
after_sound seed n (suc k) many =
    sound_with (leader_count seed n) n (drawn_arcs_so_far seed n k) (drawn_ends seed n k) (after_sound seed n k many) (mod-lt _ (omega arith))
    (mod-lt _ (omega arith))

-- The ring's arcs stay, and each draw adds one at most.
pub record HasRing (n most : ℕ) (xs : List ArcEnds) : Type 0 where
  pub ring : (i : ℕ) → i < n → IsElement (ring_arc n i) xs
  pub many : n ≤ length xs
  pub few : length xs ≤ most

ring_with : (leaders n most : ℕ) (xs : List ArcEnds) (a : ArcEnds) → HasRing n most xs → HasRing n (suc most) (with_arc leaders xs a)
unfolding with_arc
ring_with leaders n most xs a h = go (is_added leaders xs a)
  where
    go : (b : Bool) → HasRing n (suc most) (cond b (xs ++ a ∷ []) xs)
    go false = let m = h.many in let f = h.few in record { ring = h.ring; many = m; few = omega arith }
    go true =
        let e : length (xs ++ a ∷ []) ≡ length xs + 1 = length-append xs (a ∷ []) in
        let m = h.many in
        let f = h.few in
        record { ring = λ i lt. in_append xs (a ∷ []) (ring_arc n i) (inl (h.ring i lt)); many = omega (arith, e); few = omega (arith, e) }

after_ring : (seed n k : ℕ) → HasRing n (n + k) (drawn_arcs_so_far seed n k)
after_ring seed n zero =
    let e : length (ring n) ≡ n = length-map-range_with_len (ring_arc n) 0 n in
    record { ring = λ i lt. in_map (ring_arc n) (range_with_len 0 n) i (in_range i n lt); many = omega (arith, e); few = omega (arith, e) }
after_ring seed n (suc k) =
    let e : suc (n + k) ≡ n + suc k = omega arith in
    subst (λ m. HasRing n m (drawn_arcs_so_far seed n (suc k))) e (ring_with (leader_count seed n) n (n + k) (drawn_arcs_so_far seed n k) (drawn_ends seed n k)
    (after_ring seed n k))

pub arcs_are_sound : (seed n : ℕ) → 2 ≤ n → AreSound (leader_count seed n) n (drawn_arcs seed n)
unfolding drawn_arcs
arcs_are_sound seed n many = after_sound seed n n many

pub arcs_have_ring : (seed n : ℕ) → HasRing n (n + n) (drawn_arcs seed n)
unfolding drawn_arcs
arcs_have_ring seed n = after_ring seed n n
