-- Rows of the parties' distances, and what a further round makes of them.
use Rattle.std.proofs.Common.{◌≡◌, ◌⊎◌, inl, inr, ℕ, suc, zero, ◌+◌, ◌<◌, ◌≤◌, List, [], ◌∷◌, map, replicate, refl, sym, ap, ◌∙◌, arith, slice_index}
use Rattle.std.proofs.Math.Path.{fun_ext}
use Rattle.std.specs.List.{range_with_len}
use Rattle.swap_base.proofs.Lists.{below_or}
use Rattle.swap_digraph.specs.Value.{Graph}
use Rattle.swap_digraph.specs.Graph.{parties, IsDist}
use Rattle.leader_check.proofs.Rows.{row_reads, no_follower}
use Rattle.leader_check.specs.Distance.{prior_distance, bounded_distance, bounded_distances, leader_distance}
use Rattle.leader_check.specs.DistanceLaws.{DistancesFollowArcs}
use Rattle.leader_check.specs.Levels.{greatest_level}
use Rattle.leader_check.proofs.Heights.{is_height}
use Rattle.leader_check.proofs.Far.{before-other, within-suc, within-below, dist_is, dist_one, dist_by_rounds}

within-outside : (g : Graph) (l k v : ℕ) → g.n ≤ v → bounded_distance g l k v ≡ 0
unfolding bounded_distance
within-outside g l zero v le = refl
within-outside g l (suc k) v le = before-other g l (bounded_distance g l k) v (no_follower g (l ∷ []) v le)

of-outside : (g : Graph) (l v : ℕ) → g.n ≤ v → leader_distance g l v ≡ 0
unfolding leader_distance
of-outside g l v le = within-outside g l g.n v le

pub dists_none : (g : Graph) (l : ℕ) → replicate {A = ℕ} g.n 0 ≡ bounded_distances g l 0
unfolding bounded_distance
dists_none g l = go 0 g.n
  where
    go : (a n : ℕ) → replicate {A = ℕ} n 0 ≡ map (λ (v : ℕ). 0) (range_with_len a n)
    go a zero = refl
    go a (suc n) = ap (λ xs. 0 ∷ xs) (go (a + 1) n)

pub dists_next : (g : Graph) (l k : ℕ) (row next : List ℕ) → row ≡ bounded_distances g l k → next ≡ map (prior_distance g l (slice_index row)) (parties g)
    → next ≡ bounded_distances g l (k + 1)
unfolding bounded_distance
dists_next g l k row next e h =
    let s : k + 1 ≡ suc k = omega arith in
    let f : slice_index row ≡ bounded_distance g l k = fun_ext (row_reads (bounded_distance g l k) g.n 0 row (within-outside g l k) e) in
    h ∙ ap (λ (t : ℕ → ℕ). map (prior_distance g l t) (parties g)) f ∙ ap (bounded_distances g l) (sym s)

pub dists_low : (g : Graph) (l k : ℕ) (row : List ℕ) → row ≡ bounded_distances g l k → k ≤ 255 → (v : ℕ) → slice_index row v ≤ 255
dists_low g l k row e le v =
    let a = row_reads (bounded_distance g l k) g.n 0 row (within-outside g l k) e v in
    let b = within-below g l k v in
    omega (arith, a, b)

-- A further round changes nothing.

pub distances_follow_arcs : DistancesFollowArcs
distances_follow_arcs g l v ends strong leads feedback b =
    let h = greatest_level g (l ∷ []) in
    let height = is_height g (l ∷ []) feedback in
    let same : bounded_distance g l h ≡ leader_distance g l = fun_ext (λ w. go w (below_or w g.n)
    (λ lt. dist_by_rounds g l ends strong leads feedback h w height lt)) in
    let once : IsDist g l v (bounded_distance g l h v) = dist_is g l ends strong leads feedback h h v height (omega arith) b in
    let more : IsDist g l v (bounded_distance g l (suc h) v) = dist_is g l ends strong leads feedback h (suc h) v height (omega arith) b in
    ap (λ (t : ℕ → ℕ). t v) (sym same) ∙ dist_one g l ends strong leads feedback v (bounded_distance g l h v) (bounded_distance g l (suc h) v) once more
    ∙ within-suc g l h v ∙ ap (λ (t : ℕ → ℕ). prior_distance g l t v) same
  where
    go : (w : ℕ) → (w < g.n) ⊎ (g.n ≤ w) → (w < g.n → bounded_distance g l (greatest_level g (l ∷ [])) w ≡ leader_distance g l w)
        → bounded_distance g l (greatest_level g (l ∷ [])) w ≡ leader_distance g l w
    go w (inl lt) inside = inside lt
    go w (inr le) inside = within-outside g l (greatest_level g (l ∷ [])) w le ∙ sym (of-outside g l w le)
