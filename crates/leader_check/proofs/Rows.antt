-- Rows of the parties' values, and what a further round makes of them.
use Rattle.std.proofs.Common.{◌≡◌, ◌⊎◌, ℕ, suc, zero, ◌+◌, ◌-◌, ◌++◌, append_assoc, append-nil, ◌<◌, ◌≤◌, ◌==◌, max, cond, Option, Bool, true, false}
use Rattle.std.proofs.Common.{◌&&◌, List, [], ◌∷◌, length, get_or, map, replicate, refl, sym, ap, ◌∙◌, subst, inl, inr, arith, zero-add, slice_index}
use Rattle.std.proofs.Math.Path.{fun_ext}
use Rattle.std.specs.Int.{bit_at}
use Rattle.std.specs.List.{range_with_len}
use Rattle.std.proofs.lemmas.List.{get_or_past, get_or_read}
use Rattle.std.proofs.lemmas.Nat.Bits.{bit_at-zero}
use Rattle.std.proofs.lemmas.List.FromFn.{get_or-map-range_with_len, length-map-range_with_len}
use Rattle.swap_base.specs.Lists.{or_else, first_given_answer, greatest}
use Rattle.swap_base.proofs.Lists.{below_or}
use Rattle.swap_digraph.specs.Value.{Graph}
use Rattle.swap_digraph.specs.Graph.{parties}
use Rattle.leader_check.specs.Followers.{is_follower, is_marked_place}
use Rattle.leader_check.specs.Levels.{greatest_prior_value, following_level, bounded_level, bounded_levels, party_level, greatest_level}
use Rattle.leader_check.specs.Cycles.{only_if, enters_led, first_step, walks, least_walk, shortest_cycle, traced_cycle, has_bit, has_row_bit}
use Rattle.leader_check.specs.Cycles.{distance_cycle, TellsWalks}
use Rattle.leader_check.specs.Cycles.{TellAllWalks}
use Rattle.leader_check.proofs.Followers.{follower_parts}
use Rattle.leader_check.proofs.Heights.{after-other, within-below}
use Rattle.leader_check.proofs.Walks as on

pub length-row : {X : Type 0} (f : ℕ → X) (n : ℕ) (xs : List X) → xs ≡ map f (range_with_len 0 n) → length xs ≡ n
length-row f n xs e = ap length e ∙ length-map-range_with_len f 0 n

-- a row of values reads as their function, where the function is the default outside
pub row_reads : {X : Type 0} (f : ℕ → X) (n : ℕ) (d : X) (xs : List X) → ((v : ℕ) → n ≤ v → f v ≡ d) → xs ≡ map f (range_with_len 0 n) → (v : ℕ)
    → get_or xs v d ≡ f v
row_reads {X = X} f n d xs outside e v = ap (λ (ys : List X). get_or ys v d) e ∙ go (below_or v n)
  where
    go : (v < n) ⊎ (n ≤ v) → get_or (map f (range_with_len 0 n)) v d ≡ f v
    go (inl lt) = get_or-map-range_with_len f 0 n v v d lt (zero-add v)
    go (inr le) = get_or_past (map f (range_with_len 0 n)) v d (let k = length-map-range_with_len f 0 n in omega arith) ∙ sym (outside v le)

pub row_at : {X : Type 0} (f : ℕ → X) (n v : ℕ) (d : X) (xs : List X) → xs ≡ map f (range_with_len 0 n) → v < n → get_or xs v d ≡ f v
row_at {X = X} f n v d xs e lt = ap (λ (ys : List X). get_or ys v d) e ∙ get_or-map-range_with_len f 0 n v v d lt (zero-add v)

pub no_follower : (g : Graph) (ls : List ℕ) (v : ℕ) → g.n ≤ v → is_follower g ls v ≡ false
no_follower g ls v le = by_test (is_follower g ls v) (λ e. let k = (follower_parts g ls v e).0 in omega arith)
  where
    by_test : (b : Bool) → (b ≡ true → ⊥) → b ≡ false
    by_test true h = absurd (h refl)
    by_test false h = refl

within-outside : (g : Graph) (ls : List ℕ) (k v : ℕ) → g.n ≤ v → bounded_level g ls k v ≡ 0
unfolding bounded_level
within-outside g ls zero v le = refl
within-outside g ls (suc k) v le = after-other g ls (bounded_level g ls k) v (no_follower g ls v le)

walks-outside : (g : Graph) (ls : List ℕ) (v k u : ℕ) → g.n ≤ u → walks g ls v k u ≡ false
walks-outside g ls v k u le = by_test (walks g ls v k u) (λ e. let m = (follower_parts g ls u (on.walks-follower g ls v k u e)).0 in omega arith)
  where
    by_test : (b : Bool) → (b ≡ true → ⊥) → b ≡ false
    by_test true h = absurd (h refl)
    by_test false h = refl

pub follows_at : (g : Graph) (ls : List ℕ) (follows : List Bool) → follows ≡ map (is_follower g ls) (parties g) → is_marked_place follows ≡ is_follower g ls
follows_at g ls follows e = fun_ext (row_reads (is_follower g ls) g.n false follows (no_follower g ls) e)

-- The rounds of levels.

pub levels_none : (g : Graph) (ls : List ℕ) → replicate {A = ℕ} g.n 0 ≡ bounded_levels g ls 0
unfolding bounded_level
levels_none g ls = go 0 g.n
  where
    go : (a n : ℕ) → replicate {A = ℕ} n 0 ≡ map (λ (v : ℕ). 0) (range_with_len a n)
    go a zero = refl
    go a (suc n) = ap (λ xs. 0 ∷ xs) (go (a + 1) n)

pub levels_next : (g : Graph) (ls : List ℕ) (k : ℕ) (follows : List Bool) (row next : List ℕ) → follows ≡ map (is_follower g ls) (parties g)
    → row ≡ bounded_levels g ls k → next ≡ map (λ v. cond (is_marked_place follows v) (greatest_prior_value g (slice_index row) v + 1) 0) (parties g)
    → next ≡ bounded_levels g ls (k + 1)
unfolding bounded_level following_level
levels_next g ls k follows row next e is h =
    let s : k + 1 ≡ suc k = omega arith in
    let f : slice_index row ≡ bounded_level g ls k = fun_ext (row_reads (bounded_level g ls k) g.n 0 row (within-outside g ls k) is) in
    h ∙ ap (λ (t : ℕ → Bool). map (λ v. cond (t v) (greatest_prior_value g (slice_index row) v + 1) 0) (parties g)) (follows_at g ls follows e)
    ∙ ap (λ (t : ℕ → ℕ). map (λ v. cond (is_follower g ls v) (greatest_prior_value g t v + 1) 0) (parties g)) f ∙ ap (bounded_levels g ls) (sym s)

pub levels_low : (g : Graph) (ls : List ℕ) (k : ℕ) (row : List ℕ) → row ≡ bounded_levels g ls k → k ≤ 32 → (v : ℕ) → slice_index row v ≤ 32
levels_low g ls k row e le v =
    let a = row_reads (bounded_level g ls k) g.n 0 row (within-outside g ls k) e v in
    let b = within-below g ls k v in
    omega (arith, a, b)

pub levels_all : (g : Graph) (ls : List ℕ) (k : ℕ) (row : List ℕ) → row ≡ bounded_levels g ls k → k ≡ g.n → row ≡ map (party_level g ls) (parties g)
unfolding party_level
levels_all g ls k row e s = e ∙ ap (bounded_levels g ls) s

pub greatest-map : (f : ℕ → ℕ) (xs : List ℕ) → greatest (λ x. x) (map f xs) ≡ greatest f xs
greatest-map f [] = refl
greatest-map f (x ∷ xs) = ap (max (f x)) (greatest-map f xs)

pub height_is : (g : Graph) (ls : List ℕ) (row : List ℕ) → row ≡ map (party_level g ls) (parties g) → greatest (λ x. x) row ≡ greatest_level g ls
unfolding greatest_level
height_is g ls row e = ap (greatest (λ x. x)) e ∙ greatest-map (party_level g ls) (parties g)

-- The rows of walks.

no_bit : (row : List ℕ) (v u : ℕ) → length row ≤ u → has_bit row v u ≡ false
no_bit row v u le = ap (λ x. bit_at x v == 1) (get_or_past row u 0 le) ∙ ap (λ (x : ℕ). x == 1) (bit_at-zero v)

-- a row that tells the values of f inside tells them everywhere, where f is false outside
bits_are : (n v : ℕ) (f : ℕ → Bool) (row : List ℕ) → length row ≡ n → ((u : ℕ) → n ≤ u → f u ≡ false) → ((u : ℕ) → u < n → has_bit row v u ≡ f u)
    → (u : ℕ) → has_bit row v u ≡ f u
bits_are n v f row size outside inside u = go (below_or u n)
  where
    go : (u < n) ⊎ (n ≤ u) → has_bit row v u ≡ f u
    go (inl lt) = inside u lt
    go (inr le) = no_bit row v u (omega (arith, size)) ∙ sym (outside u le)

pub walks_none : (g : Graph) (ls : List ℕ) (follows : List Bool) (row : List ℕ) → follows ≡ map (is_follower g ls) (parties g)
    → length row ≡ length follows → ((v u : ℕ) → u < length follows → has_bit row v u ≡ (is_marked_place follows u && (u == v))) → TellsWalks g ls 0 row
unfolding walks
walks_none g ls follows row e size stays =
    let s = length-row (is_follower g ls) g.n follows e in
    record {
      parties = size ∙ s;
      tells =
          λ v. bits_are g.n v (walks g ls v 0) row (size ∙ s) (walks-outside g ls v 0) (λ u lt. stays v u (omega (arith, s))
          ∙ ap (λ (t : ℕ → Bool). t u && (u == v)) (follows_at g ls follows e));
    }

pub walks_next : (g : Graph) (ls : List ℕ) (k : ℕ) (follows : List Bool) (row next : List ℕ) → follows ≡ map (is_follower g ls) (parties g)
    → TellsWalks g ls k row → length next ≡ g.n → ((v u : ℕ) → u < g.n → has_bit next v u ≡ (is_marked_place follows u && enters_led g (has_bit row v) u))
    → TellsWalks g ls (k + 1) next
unfolding walks
walks_next g ls k follows row next e tells size leads =
    let s : suc k ≡ k + 1 = omega arith in
    let at_row : (v : ℕ) → has_bit row v ≡ walks g ls v k = λ v. fun_ext (tells.tells v) in
    let inside : (v u : ℕ) → u < g.n → has_bit next v u ≡ walks g ls v (suc k) u =
    λ v u lt. leads v u lt ∙ ap (λ (t : ℕ → Bool). t u && enters_led g (has_bit row v) u) (follows_at g ls follows e)
    ∙ ap (λ (t : ℕ → Bool). is_follower g ls u && enters_led g t u) (at_row v) in
    subst (λ (j : ℕ). TellsWalks g ls j next) s (record {
      parties = size;
      tells =
          λ v. bits_are g.n v (walks g ls v (suc k)) next size (walks-outside g ls v (suc k)) (inside v);
    })

-- the rows up to the k-th
pub record TellWalks (g : Graph) (ls : List ℕ) (k : ℕ) (rows : List (List ℕ)) : Type 0 where
  pub size : length rows ≡ k + 1
  pub row : (j : ℕ) → j ≤ k → TellsWalks g ls j (get_or rows j [])

-- the last row, as the program reads it
pub row_found : (g : Graph) (ls : List ℕ) (k : ℕ) (rows : List (List ℕ)) (found row : List ℕ) → TellWalks g ls k rows → found ≡ get_or rows k found
    → row ≡ found → TellsWalks g ls k row
row_found g ls k rows found row tell is e =
    let s = tell.size in
    let q : row ≡ get_or rows k [] = e ∙ get_or_read rows k found (omega (arith, s)) is [] in
    subst (TellsWalks g ls k) (sym q) (tell.row k (omega arith))

length-push : {A : Type 0} (xs : List A) (x : A) → length (xs ++ x ∷ []) ≡ length xs + 1
length-push [] x = omega arith
length-push (y ∷ xs) x = let k = length-push xs x in omega arith

push-before : {A : Type 0} (xs : List A) (x d : A) (j : ℕ) → j < length xs → get_or (xs ++ x ∷ []) j d ≡ get_or xs j d
push-before [] x d j lt = absurd (omega arith)
push-before (y ∷ xs) x d zero lt = refl
push-before (y ∷ xs) x d (suc j) lt = push-before xs x d j (omega arith)

push-last : {A : Type 0} (xs : List A) (x d : A) → get_or (xs ++ x ∷ []) (length xs) d ≡ x
push-last [] x d = refl
push-last (y ∷ xs) x d = push-last xs x d

pub rows_first : (g : Graph) (ls : List ℕ) (row : List ℕ) (rows : List (List ℕ)) → rows ≡ row ∷ [] → TellsWalks g ls 0 row → TellWalks g ls 0 rows
rows_first g ls row rows e tells =
    subst (TellWalks g ls 0) (sym e) (record { size = refl; row = λ j le. go j le })
  where
    go : (j : ℕ) → j ≤ 0 → TellsWalks g ls j (get_or (row ∷ []) j [])
    go zero le = tells
    go (suc j) le = absurd (omega arith)

at_or_below : (j k : ℕ) → j ≤ k + 1 → (j ≤ k) ⊎ (j ≡ k + 1)
at_or_below j k le = grind arith

pub rows_more : (g : Graph) (ls : List ℕ) (k : ℕ) (row : List ℕ) (rows next : List (List ℕ)) → next ≡ rows ++ row ∷ [] → TellWalks g ls k rows
    → TellsWalks g ls (k + 1) row → TellWalks g ls (k + 1) next
rows_more g ls k row rows next e tell tells =
    let s = tell.size in
    subst (TellWalks g ls (k + 1)) (sym e) (record { size = length-push rows row ∙ ap (λ (m : ℕ). m + 1) s; row = λ j le. go s j (at_or_below j k le) })
  where
    go : length rows ≡ k + 1 → (j : ℕ) → (j ≤ k) ⊎ (j ≡ k + 1) → TellsWalks g ls j (get_or (rows ++ row ∷ []) j [])
    go s j (inl le) = subst (TellsWalks g ls j) (sym (push-before rows row [] j (omega (arith, s)))) (tell.row j le)
    go s j (inr q) = rw (q, sym s, push-last rows row []) (subst (λ (m : ℕ). TellsWalks g ls m row) (sym s) tells)

pub rows_all : (g : Graph) (ls : List ℕ) (k : ℕ) (rows : List (List ℕ)) → k ≡ g.n → TellWalks g ls k rows → TellAllWalks g ls rows
rows_all g ls k rows e tell = let s = tell.size in record { size = omega (arith, s); row = λ j le. tell.row j (omega arith) }

pub same_walk : (g : Graph) (f h : ℕ → ℕ → Bool) (k u : ℕ) → ((j : ℕ) → j < k → f j ≡ h j) → least_walk g f k u ≡ least_walk g h k u
unfolding least_walk
same_walk g f h zero u e = refl
same_walk g f h (suc k) u e =
    ap (λ (t : ℕ → Bool). u ∷ least_walk g f k (first_step g t u)) (e k (omega arith))
    ∙ ap (λ (xs : List ℕ). u ∷ xs) (same_walk g f h k (first_step g (h k) u) (λ j lt. e j (omega arith)))

same_cycle : (g : Graph) (f h : ℕ → ℕ → Bool) (v k : ℕ) → ((j : ℕ) → j ≤ k → f j ≡ h j) → distance_cycle g f v k ≡ distance_cycle g h v k
same_cycle g f h v k e =
    ap (λ (t : ℕ → Bool). only_if (t v) (least_walk g f k v)) (e k (omega arith))
    ∙ ap (λ (xs : List ℕ). only_if (h k v) xs) (same_walk g f h k v (λ j lt. e j (omega arith)))

first_same : {B : Type 0} (f h : ℕ → Option B) (a n : ℕ) → ((k : ℕ) → k < a + n → f k ≡ h k) → first_given_answer f (range_with_len a n) ≡ first_given_answer h (range_with_len a n)
first_same f h a zero e = refl
first_same {B = B} f h a (suc n) e =
    ap (λ (o : Option B). or_else o (first_given_answer f (range_with_len (a + 1) n))) (e a (omega arith))
    ∙ ap (λ (o : Option B). or_else (h a) o) (first_same f h (a + 1) n (λ k lt. e k (omega arith)))

pub cycle_is_from : (g : Graph) (ls : List ℕ) (rows : List (List ℕ)) (v : ℕ) → TellAllWalks g ls rows
    → first_given_answer (distance_cycle g (has_row_bit rows v) v) (range_with_len 1 g.n) ≡ traced_cycle g ls v
unfolding traced_cycle
cycle_is_from g ls rows v tell =
    first_same (distance_cycle g (has_row_bit rows v) v) (shortest_cycle g ls v) 1 g.n (λ k lt.
    same_cycle g (has_row_bit rows v) (walks g ls v) v k (λ j le. fun_ext ((tell.row j (omega arith)).tells v)))

-- The loop that walks.

pub walk_goes_on : (g : Graph) (f : ℕ → ℕ → Bool) (left u w : ℕ) (list total : List ℕ) → 0 < left → w ≡ first_step g (f (left - 1)) u
    → list ++ least_walk g f left u ≡ total → (list ++ u ∷ []) ++ least_walk g f (left - 1) w ≡ total
unfolding least_walk
walk_goes_on g f left u w list total some e so_far =
    let s : left ≡ suc (left - 1) = omega arith in
    append_assoc list (u ∷ []) (least_walk g f (left - 1) w) ∙ ap (λ (x : ℕ). list ++ (u ∷ least_walk g f (left - 1) x)) e
    ∙ sym (ap (λ (k : ℕ). list ++ least_walk g f k u) s) ∙ so_far

pub walk_ends : (g : Graph) (f : ℕ → ℕ → Bool) (left u : ℕ) (list total : List ℕ) → left ≤ 0 → list ++ least_walk g f left u ≡ total → list ≡ total
unfolding least_walk
walk_ends g f left u list total none so_far =
    let s : left ≡ 0 = omega arith in
    sym (ap (λ (k : ℕ). list ++ least_walk g f k u) s ∙ append-nil list) ∙ so_far
