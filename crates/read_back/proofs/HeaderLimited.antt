-- The limits of a header that is shown are kept, and its digests are those of the job.
use Rattle.std.proofs.Common.{◌≡◌, inl, inr, ◌^◌, ◌<◌, ◌≤◌, ℕ, suc, nat_le, Bool, true, false, List, [], ◌∷◌, length, map}
use Rattle.std.proofs.Common.{slice_index, Option, None, Ok, refl, sym, ap, ap₂, ◌∙◌, subst, arith, le-leb}
use Rattle.std.specs.Prelude.{All, codes, slice_index_or}
use Rattle.std.specs.List.{range_with_len}
use Rattle.std.proofs.lemmas.List.{length-map}
use Rattle.std.proofs.lemmas.List.FromFn.{length-map-range_with_len}
use Rattle.hex.specs.Hex.{encode_lower}
use Rattle.hex.proofs.HexLemmas.{decode_sized-encode_lower}
use Rattle.swap_base.specs.Lists.{IsElement}
use Rattle.swap_base.proofs.Lists.{and_both, from_range}
use Rattle.swap_digraph.specs.Graph.{arcs}
use Rattle.swap_digraph.specs.declared.arc_ends.ArcEnds.{ArcEnds}
use Rattle.swap_digraph.specs.declared.deal.Mode.{Mode}
use Rattle.swap_digraph.specs.declared.deal.Mode.TheVariants.{Timelocks, Hashkeys}
use Rattle.swap_digraph.specs.Deal.{amount, locks, most_arcs, most_parties, HasKeys}
use Rattle.swap_digraph.specs.declared.deal.Deal.{Deal}
use Rattle.swap_job.specs.Roles.{is_conforming}
use Rattle.swap_job.specs.declared.job.Job.{Job}
use Rattle.swap_job.specs.declared.job.Purpose.TheVariants.{Audit}
use Rattle.swap_job.specs.declared.job.Finish.TheVariants.{Stop}
use Rattle.swap_job.specs.declared.job.Role.{Role}
use Rattle.swap_rules.specs.Accepted.{IsAccepted, IsTimed}
use Rattle.offer_moves.specs.Lists.{collected_results}
use Rattle.offer_moves.specs.FieldLimits.{decoded, to_digest, ranged_number, check_range}
use Rattle.offer_moves.specs.declared.moves.Sizes.{Sizes}
use Rattle.offer_header.specs.declared.limits.Acting.{Acting}
use Rattle.offer_header.specs.declared.limits.ArcTerms.{ArcTerms}
use Rattle.offer_header.specs.declared.header.Header.{Header}
use Rattle.offer_header.specs.Header.{simple_role}
use Rattle.offer_header.specs.Limits.{parse_acting, limited_terms, arc_ends, stated_hashlock, leader_hashlocks, key_digest, derived_keys, limited_value, count_parties}
use Rattle.offer_header.specs.Limits.{party_key_row, checked_role, checked_seed, header_sizes, stated_keys, limited_arc_terms}
use Rattle.typed_books.specs.Typed.{IsDigest}
use Rattle.read_back.specs.Headers.{IsShowable}
use Rattle.read_back.proofs.Steps.{by_places, each_back, step}
use Rattle.read_back.proofs.HeaderFields.{actor_for, raw_arc, raw_header, raw_leader, raw_party, raw_row, stated}
use Rattle.read_back.proofs.HeaderNamed.{ends_at, numbered_at}
use Rattle.read_back.proofs.Bounds.{enough_is_some}
use Rattle.read_back.proofs.Lists.{twice, same_map}

-- ---- ranges, digests and lists

pub within_back : (line : ℕ) (field : List ℕ) (low high n : ℕ) → low ≤ n → n ≤ high → check_range line field low high n ≡ Ok tt
unfolding check_range
within_back line field low high n l h = rw (and_both (nat_le low n) (nat_le n high) (le-leb low n l) (le-leb n high h)) refl

pub number_back : (line : ℕ) (field : List ℕ) (low high n : ℕ) → low ≤ n → n ≤ high → ranged_number line field low high n ≡ Ok n
unfolding ranged_number
number_back line field low high n l h = step _ tt _ (within_back line field low high n l h)

pub digest_back : (line : ℕ) (field x : List ℕ) → IsDigest x → to_digest line field (encode_lower x) ≡ Ok x
unfolding to_digest
digest_back line field x k = ap (decoded line field) (decode_sized-encode_lower x 32 k.size k.bytes)

pub all_in : {A : Type 0} (P : A → Type 0) (xs : List A) (x : A) → All P xs → IsElement x xs → P x
all_in P [] x h i = absurd i
all_in P (y ∷ ys) x h (inl e) = subst P (sym e) (h 0 y (omega arith))
all_in P (y ∷ ys) x h (inr i) = all_in P ys x (λ j d lt. h (suc j) d (omega arith)) i

pub map_self : {A : Type 0} (xs : List A) → map (λ x. x) xs ≡ xs
map_self [] = refl
map_self {A = A} (x ∷ xs) = ap (λ (ys : List A). x ∷ ys) (map_self xs)

-- a list of the places of another
pub places : {A B : Type 0} (f : A → B) (xs : List A) (d : A) (n : ℕ) → length xs ≡ n → map (λ i. f (slice_index_or xs i d)) (range_with_len 0 n) ≡ map f xs
places f xs d n e =
    ap (λ (m : ℕ). map (λ i. f (slice_index_or xs i d)) (range_with_len 0 m)) (sym e)
    ∙ sym (twice f (λ i. slice_index_or xs i d) (range_with_len 0 (length xs))) ∙ ap (map f) (by_places d [] xs)

-- a list by its places
pub placed : {A : Type 0} (xs : List A) (d : A) (n : ℕ) → length xs ≡ n → map (λ i. slice_index_or xs i d) (range_with_len 0 n) ≡ xs
placed xs d n e = places (λ x. x) xs d n e ∙ map_self xs

-- ---- parties

abbrev acting_for : Bool → Acting
acting_for c = record { role = simple_role c; seed = None }

role_back : (sizes : Sizes) (names : List (List ℕ)) (line : ℕ) (c : Bool) → checked_role sizes names line (actor_for c) ≡ Ok (simple_role c)
role_back sizes names line true = refl
role_back sizes names line false = refl

simple_conforms : (c : Bool) → is_conforming (simple_role c) ≡ c
simple_conforms true = refl
simple_conforms false = refl

roles_are : (cs : List Bool) → map (λ (a : Acting). a.role) (map acting_for cs) ≡ map simple_role cs
roles_are [] = refl
roles_are (c ∷ cs) = ap (λ (rs : List Role). simple_role c ∷ rs) (roles_are cs)

conforming_are : (cs : List Bool) → map (λ (a : Acting). is_conforming a.role) (map acting_for cs) ≡ cs
conforming_are [] = refl
conforming_are (c ∷ cs) = ap₂ (λ (b : Bool) (bs : List Bool). b ∷ bs) (simple_conforms c) (conforming_are cs)

seeds_are : (cs : List Bool) → map (λ (a : Acting). a.seed) (map acting_for cs) ≡ map (λ c. None) cs
seeds_are [] = refl
seeds_are (c ∷ cs) = ap (λ (ss : List (Option (List ℕ))). None ∷ ss) (seeds_are cs)

pub some_bound : (d : Deal) → IsAccepted d → 1 ≤ d.bound
some_bound d a = enough_is_some d.graph d.leaders a.height d.bound a.parties.0 a.leaders.0 a.is_height a.bound.0

-- ---- the header

abbrev pub resolve_header : Job → List Role → List Bool → List (Option (List ℕ)) → List ArcEnds → List ℕ → List ℕ → Header
resolve_header job roles conforming seeds ends amounts timelocks = record {
  purpose = Audit;
  version = job.deal.version;
  mode = job.deal.mode;
  start = job.deal.start;
  delta = job.deal.delta;
  bound = job.deal.bound;
  names = job.names;
  roles = roles;
  conforming = conforming;
  seeds = seeds;
  arcs = ends;
  amounts = amounts;
  timelocks = timelocks;
  leaders = job.deal.leaders;
  hashlocks = job.deal.hashlocks;
  keys = job.deal.keys;
  finish = Stop;
}

pub same_header : (job : Job) (rs rs' : List Role) (cs cs' : List Bool) (ss ss' : List (Option (List ℕ))) (es es' : List ArcEnds) (ms ms' ts ts' : List ℕ)
    → rs ≡ rs' → cs ≡ cs' → ss ≡ ss' → es ≡ es' → ms ≡ ms' → ts ≡ ts' → resolve_header job rs cs ss es ms ts ≡ resolve_header job rs' cs' ss' es' ms' ts'
same_header job rs rs' cs cs' ss ss' es es' ms ms' ts ts' r c s e m t =
    ap (λ (x : List Role). resolve_header job x cs ss es ms ts) r
    ∙ ap (λ (x : List Bool). resolve_header job rs' x ss es ms ts) c
    ∙ ap (λ (x : List (Option (List ℕ))). resolve_header job rs' cs' x es ms ts) s
    ∙ ap (λ (x : List ArcEnds). resolve_header job rs' cs' ss' x ms ts) e
    ∙ ap (λ (x : List ℕ). resolve_header job rs' cs' ss' es' x ts) m
    ∙ ap (λ (x : List ℕ). resolve_header job rs' cs' ss' es' ms' x) t

abbrev pub header_at : Job → Header
header_at job =
    resolve_header job (map simple_role job.conforming) job.conforming (map (λ c. None) job.conforming) job.deal.graph.arcs job.deal.amounts job.deal.timelocks

abbrev pub terms_at : Mode → Job → ℕ → ArcTerms
terms_at mode job a = record { amount = amount job.deal a; timelock = stated mode (slice_index job.deal.timelocks a) }

module _ (job : Job) (k : IsShowable job) (line : ℕ) where
  -- ---- parties

  party_acts : (sizes : Sizes) (names : List (List ℕ)) (p : ℕ)
      → parse_acting sizes names line (raw_party job p) ≡ Ok (acting_for (slice_index_or job.conforming p false))
  unfolding parse_acting checked_seed
  party_acts sizes names p =
      step _ (simple_role (slice_index_or job.conforming p false)) _ (role_back sizes names line (slice_index_or job.conforming p false))

  parties_act : (sizes : Sizes) (names : List (List ℕ))
      → count_parties job.deal.version sizes names line (map (raw_party job) (range_with_len 0 job.deal.graph.n)) ≡ Ok (map acting_for job.conforming)
  unfolding count_parties
  parties_act sizes names =
      let low : 2 ≤ job.deal.graph.n = k.accepted.parties.0 in
      let high : job.deal.graph.n ≤ most_parties job.deal.version = k.accepted.parties.1 in
      let size : length (map (raw_party job) (range_with_len 0 job.deal.graph.n)) ≡ job.deal.graph.n
      = length-map-range_with_len (raw_party job) 0 job.deal.graph.n in
      step _ tt _ (within_back line (codes "parties") 2 (most_parties job.deal.version) (length (map (raw_party job) (range_with_len 0 job.deal.graph.n)))
      (omega (arith, low, size)) (omega (arith, high, size)))
      ∙ each_back (parse_acting sizes names line) (raw_party job) (λ p. acting_for (slice_index_or job.conforming p false)) (range_with_len 0 job.deal.graph.n)
      (λ p i. party_acts sizes names p)
      ∙ ap (λ (l : List Acting). Ok l) (places acting_for job.conforming false job.deal.graph.n k.conforming)

  -- ---- arcs

  stated_low : (mode : Mode) (a : ℕ) → a < length job.deal.graph.arcs → stated mode (slice_index job.deal.timelocks a) ≤ 1000000
  stated_low Timelocks a lt = k.sized.timelock a lt
  stated_low Hashkeys a lt = omega arith

  term_back : (mode : Mode) (a : ℕ) → a < length job.deal.graph.arcs → limited_arc_terms line (raw_arc mode job a) ≡ Ok (terms_at mode job a)
  unfolding limited_arc_terms
  term_back mode a lt =
      step _ tt _ (within_back line (codes "amount") 1 (10 ^ 12) (amount job.deal a) (k.accepted.amounts a lt).0 (k.accepted.amounts a lt).1)
      ∙ step _ (stated mode (slice_index job.deal.timelocks a)) _
      (number_back line (codes "timelock") 0 1000000 (stated mode (slice_index job.deal.timelocks a)) (omega arith) (stated_low mode a lt))

  pub terms_back : (mode : Mode)
      → limited_terms job.deal.version line (map (raw_arc mode job) (arcs job.deal.graph)) ≡ Ok (map (terms_at mode job) (arcs job.deal.graph))
  unfolding limited_terms
  terms_back mode =
      let low : 2 ≤ length job.deal.graph.arcs = k.accepted.arcs.0 in
      let high : length job.deal.graph.arcs ≤ most_arcs job.deal.version = k.accepted.arcs.1 in
      let size : length (map (raw_arc mode job) (arcs job.deal.graph)) ≡ length job.deal.graph.arcs
      = length-map-range_with_len (raw_arc mode job) 0 (length job.deal.graph.arcs) in
      step _ tt _ (within_back line (codes "arcs") 2 (most_arcs job.deal.version) (length (map (raw_arc mode job) (arcs job.deal.graph)))
      (omega (arith, low, size)) (omega (arith, high, size)))
      ∙ each_back (limited_arc_terms line) (raw_arc mode job) (terms_at mode job) (arcs job.deal.graph)
      (λ a i. term_back mode a (from_range a (length job.deal.graph.arcs) i))

  pub ends_are : map arc_ends (map (ends_at job) (arcs job.deal.graph)) ≡ job.deal.graph.arcs
  ends_are =
      twice arc_ends (ends_at job) (arcs job.deal.graph)
      ∙ placed job.deal.graph.arcs (record { from = 0; to = 0 }) (length job.deal.graph.arcs) refl

  pub amounts_are : (mode : Mode) → map (λ (t : ArcTerms). t.amount) (map (terms_at mode job) (arcs job.deal.graph)) ≡ job.deal.amounts
  amounts_are mode =
      twice (λ (t : ArcTerms). t.amount) (terms_at mode job) (arcs job.deal.graph)
      ∙ placed job.deal.amounts 0 (length job.deal.graph.arcs) k.accepted.one_amount_each

  as_stated : (mode : Mode) → IsTimed mode job.deal → (a : ℕ) → a < length job.deal.graph.arcs
      → stated mode (slice_index job.deal.timelocks a) ≡ slice_index job.deal.timelocks a
  as_stated Timelocks t a lt = refl
  as_stated Hashkeys t a lt = sym (t a lt)

  pub timelocks_are : (mode : Mode) → IsTimed mode job.deal
      → map (λ (t : ArcTerms). t.timelock) (map (terms_at mode job) (arcs job.deal.graph)) ≡ job.deal.timelocks
  timelocks_are mode timed =
      twice (λ (t : ArcTerms). t.timelock) (terms_at mode job) (arcs job.deal.graph)
      ∙ same_map (λ a. stated mode (slice_index job.deal.timelocks a)) (λ a. slice_index job.deal.timelocks a) (arcs job.deal.graph)
      (λ a i. as_stated mode timed a (from_range a (length job.deal.graph.arcs) i))
      ∙ placed job.deal.timelocks 0 (length job.deal.graph.arcs) k.accepted.one_timelock_each

  -- ---- hashlocks and keys

  hashlock_back : (i : ℕ) → i < length job.deal.leaders → stated_hashlock line (raw_leader job i) ≡ Ok (slice_index_or job.deal.hashlocks i [])
  unfolding stated_hashlock
  hashlock_back i lt =
      let count : length job.deal.hashlocks ≡ length job.deal.leaders = k.accepted.hashlocks in
      digest_back line (codes "hashlock") (slice_index_or job.deal.hashlocks i []) (k.hashlocks i [] (omega (arith, count, lt)))

  pub hashlocks_back : leader_hashlocks false line (map (raw_leader job) (locks job.deal)) ≡ Ok job.deal.hashlocks
  unfolding leader_hashlocks
  hashlocks_back =
      let low : 1 ≤ length job.deal.leaders = k.accepted.leaders.0 in
      let high : length job.deal.leaders ≤ 8 = k.accepted.leaders.1 in
      let size : length (map (raw_leader job) (locks job.deal)) ≡ length job.deal.leaders
      = length-map-range_with_len (raw_leader job) 0 (length job.deal.leaders) in
      step _ tt _ (within_back line (codes "leaders") 1 8 (length (map (raw_leader job) (locks job.deal))) (omega (arith, low, size))
      (omega (arith, high, size)))
      ∙ each_back (stated_hashlock line) (raw_leader job) (λ i. slice_index_or job.deal.hashlocks i []) (locks job.deal)
      (λ i is. hashlock_back i (from_range i (length job.deal.leaders) is))
      ∙ ap (λ (l : List (List ℕ)). Ok l) (placed job.deal.hashlocks [] (length job.deal.leaders) k.accepted.hashlocks)

  key_back : (key : List ℕ) → IsDigest key → key_digest line (encode_lower key) ≡ Ok key
  unfolding key_digest
  key_back key d = digest_back line (codes "keys") key d

  row_back : (keys : List (List ℕ)) → length keys ≡ length job.deal.leaders → All IsDigest keys
      → party_key_row (length job.deal.leaders) line (raw_row keys) ≡ Ok keys
  unfolding party_key_row
  row_back keys long all =
      let size : length (map encode_lower keys) ≡ length job.deal.leaders = length-map keys encode_lower ∙ long in
      step _ tt _ (within_back line (codes "keys") (length job.deal.leaders) (length job.deal.leaders) (length (map encode_lower keys))
      (omega (arith, size)) (omega (arith, size)))
      ∙ each_back (key_digest line) encode_lower (λ x. x) keys (λ key i. key_back key (all_in IsDigest keys key all i))
      ∙ ap (λ (l : List (List ℕ)). Ok l) (map_self keys)

  pub rows_back : (xs : List (List (List ℕ))) → ((x : List (List ℕ)) → IsElement x xs → (length x ≡ length job.deal.leaders) × All IsDigest x)
      → collected_results (party_key_row (length job.deal.leaders) line) (map raw_row xs) ≡ Ok xs
  rows_back xs each =
      each_back (party_key_row (length job.deal.leaders) line) raw_row (λ x. x) xs (λ x i. row_back x (each x i).0 (each x i).1)
      ∙ ap (λ (l : List (List (List ℕ))). Ok l) (map_self xs)

  pub in_place : (xs : List (List (List ℕ))) (x : List (List ℕ)) → ((p : ℕ) → p < length xs → length (slice_index_or xs p []) ≡ length job.deal.leaders)
      → IsElement x xs → length x ≡ length job.deal.leaders
  in_place [] x h i = absurd i
  in_place (y ∷ ys) x h (inl e) = ap (λ (l : List (List ℕ)). length l) e ∙ h 0 (omega arith)
  in_place (y ∷ ys) x h (inr i) = in_place ys x (λ p lt. h (suc p) (omega arith)) i

  stated_back : HasKeys Hashkeys job.deal → stated_keys line (raw_header Hashkeys job) ≡ Ok job.deal.keys
  unfolding stated_keys
  stated_back has =
      let parties : length (map (raw_party job) (range_with_len 0 job.deal.graph.n)) ≡ job.deal.graph.n
      = length-map-range_with_len (raw_party job) 0 job.deal.graph.n in
      let leaders : length (map (raw_leader job) (locks job.deal)) ≡ length job.deal.leaders
      = length-map-range_with_len (raw_leader job) 0 (length job.deal.leaders) in
      let count : length job.deal.keys ≡ job.deal.graph.n = has.0 in
      let keys : length (map raw_row job.deal.keys) ≡ length job.deal.keys = length-map job.deal.keys raw_row in
      step _ tt _ (within_back line (codes "keys") (length (map (raw_party job) (range_with_len 0 job.deal.graph.n)))
      (length (map (raw_party job) (range_with_len 0 job.deal.graph.n))) (length (map raw_row job.deal.keys)) (omega (arith, parties, count, keys))
      (omega (arith, parties, count, keys)))
      ∙ ap (λ (n : ℕ). collected_results (party_key_row n line) (map raw_row job.deal.keys)) leaders
      ∙ rows_back job.deal.keys (λ x i. (
        in_place job.deal.keys x (λ p lt. has.1 p (omega (arith, lt, count))) i,
        all_in (All IsDigest) job.deal.keys x k.keys i,
      ))

  keys_back : (mode : Mode) → HasKeys mode job.deal → derived_keys mode false line (raw_header mode job) ≡ Ok job.deal.keys
  keys_back Timelocks has = ap (λ (l : List (List (List ℕ))). Ok l) (sym has)
  keys_back Hashkeys has = stated_back has

  -- ---- the header

  is_header : (mode : Mode) → IsTimed mode job.deal → resolve_header job (map (λ (a : Acting). a.role) (map acting_for job.conforming))
      (map (λ (a : Acting). is_conforming a.role) (map acting_for job.conforming)) (map (λ (a : Acting). a.seed) (map acting_for job.conforming))
      (map arc_ends (map (ends_at job) (arcs job.deal.graph))) (map (λ (t : ArcTerms). t.amount) (map (terms_at mode job) (arcs job.deal.graph)))
      (map (λ (t : ArcTerms). t.timelock) (map (terms_at mode job) (arcs job.deal.graph))) ≡ header_at job
  is_header mode timed =
      same_header job _ (map simple_role job.conforming) _ job.conforming _ (map (λ c. None) job.conforming) _ job.deal.graph.arcs _ job.deal.amounts _
      job.deal.timelocks (roles_are job.conforming) (conforming_are job.conforming) (seeds_are job.conforming) ends_are (amounts_are mode)
      (timelocks_are mode timed)

  pub limited_back : limited_value Audit line (raw_header job.deal.mode job) (numbered_at job) ≡ Ok (header_at job)
  unfolding limited_value
  limited_back =
      let mode : Mode = job.deal.mode in
      let delta : 1 ≤ job.deal.delta = k.accepted.delta.0 in
      let start : job.deal.delta ≤ job.deal.start = k.accepted.start.0 in
      step _ job.deal.start _ (number_back line (codes "start") 1 1000 job.deal.start (omega (arith, delta, start)) k.accepted.start.1)
      ∙ step _ job.deal.delta _ (number_back line (codes "delta") 1 100 job.deal.delta delta k.accepted.delta.1)
      ∙ step _ job.deal.bound _ (number_back line (codes "bound") 1 64 job.deal.bound (some_bound job.deal k.accepted) k.accepted.bound.1)
      ∙ step _ (map acting_for job.conforming) _ (parties_act (header_sizes (raw_header job.deal.mode job)) job.names)
      ∙ step _ (map (terms_at mode job) (arcs job.deal.graph)) _ (terms_back mode)
      ∙ step _ job.deal.hashlocks _ hashlocks_back
      ∙ step _ job.deal.keys _ (keys_back mode k.accepted.keys)
      ∙ ap (λ (h : Header). Ok h) (is_header mode k.accepted.timed)
