-- The names of a header that is shown stand for the numbers of the job.
use Rattle.std.proofs.Common.{◌≡◌, ◌+◌, ◌<◌, ◌≤◌, ℕ, zero, suc, nat_eq, Bool, true, false, List, [], ◌∷◌, length, map, take, get_or, Some, Ok, refl, sym}
use Rattle.std.proofs.Common.{ap, ◌∙◌, arith, get_or-take, eqb-true}
use Rattle.std.specs.Prelude.{slice_index_or}
use Rattle.std.specs.Str.{bytes_eq}
use Rattle.std.specs.List.{list_any, position_from, range_with_len}
use Rattle.std.proofs.lemmas.Iterator.Adapters.{position_from-zero}
use Rattle.std.proofs.lemmas.List.{length-take, take_all, take_more}
use Rattle.swap_base.specs.Fault.{steps}
use Rattle.swap_base.proofs.Lists.{from_range}
use Rattle.hashkey_path.proofs.Validity.{bytes_eq-true, bytes_eq_self}
use Rattle.swap_digraph.specs.Graph.{arcs, ends}
use Rattle.swap_digraph.specs.declared.deal.Mode.{Mode}
use Rattle.swap_digraph.specs.Deal.{lock_leader}
use Rattle.swap_job.specs.declared.job.Job.{Job}
use Rattle.offer_moves.specs.Names.{found_place, party_of_name}
use Rattle.offer_moves.specs.Lists.{collected_results}
use Rattle.offer_header.specs.Names.{actor_known, named_ends, is_name, leader_step, name_added, name_step, names_stated, numbered_header}
use Rattle.offer_header.specs.declared.names.Ends.{Ends}
use Rattle.offer_header.specs.declared.names.Numbered.{Numbered}
use Rattle.read_back.specs.Headers.{IsShowable}
use Rattle.read_back.proofs.Steps.{each_back, step}
use Rattle.read_back.proofs.HeaderFields.{actor_for, raw_arc, raw_header, raw_leader, raw_party}
use Rattle.read_back.proofs.Shape.{not_true}

any_false : {A : Type 0} (f : A → Bool) (xs : List A) (d : A) → ((j : ℕ) → j < length xs → f (get_or xs j d) ≡ false) → list_any f xs ≡ false
any_false f [] d h = refl
any_false f (x ∷ xs) d h = rw (h 0 (omega arith)) (any_false f xs d (λ j lt. h (suc j) (omega arith)))

first_at : {A : Type 0} (f : A → Bool) (xs : List A) (d : A) (p from : ℕ) → p < length xs → f (get_or xs p d) ≡ true
    → ((j : ℕ) → j < p → f (get_or xs j d) ≡ false) → position_from f from xs ≡ Some (from + p)
first_at f [] d p from lt here before = absurd (omega arith)
first_at f (x ∷ xs) d zero from lt here before =
    let z : ◌≡◌ {A = ℕ} from (from + 0) = omega arith in
    rw here (ap (λ (n : ℕ). Some n) z)
first_at f (x ∷ xs) d (suc p) from lt here before =
    let z : ◌≡◌ {A = ℕ} (from + 1 + p) (from + suc p) = omega arith in
    rw (before 0 (omega arith)) (first_at f xs d p (from + 1) (omega arith) here (λ j less. before (suc j) (omega arith)) ∙ ap (λ (n : ℕ). Some n) z)

-- an actor that is a word is known
actor_is_known : (has : List ℕ → Bool) (line : ℕ) (all : List (List ℕ)) (c : Bool) → actor_known has line all (actor_for c) ≡ Ok tt
actor_is_known has line all true = refl
actor_is_known has line all false = refl

abbrev pub ends_at : Job → ℕ → Ends
ends_at job a = record { from = (ends job.deal.graph a).from; to = (ends job.deal.graph a).to }

abbrev pub numbered_at : Job → Numbered
numbered_at job = record { names = job.names; arcs = map (ends_at job) (arcs job.deal.graph); leaders = job.deal.leaders }

module _ (job : Job) (k : IsShowable job) (line : ℕ) where
  -- ---- the number of a name

  -- a name that isn't among those before it
  other_name : (p j i : ℕ) → p < length job.names → j < i → i ≤ p
      → bytes_eq (slice_index_or job.names p []) (get_or (take i job.names) j []) ≡ false
  other_name p j i lt less le =
      not_true (bytes_eq (slice_index_or job.names p []) (get_or (take i job.names) j []))
      (λ t.
      let same : p ≡ j = k.apart p j lt (omega arith)
      (bytes_eq-true (slice_index_or job.names p []) (get_or (take i job.names) j []) t ∙ get_or-take i job.names j [] less) in
      omega (arith, same, less, le))

  pub is_fresh : (p : ℕ) → p < length job.names → list_any (bytes_eq (slice_index_or job.names p [])) (take p job.names) ≡ false
  is_fresh p lt =
      let size = length-take p job.names in
      any_false (bytes_eq (slice_index_or job.names p [])) (take p job.names) []
      (λ j less. other_name p j p lt (omega (arith, less, size)) (omega arith))

  pub number_back : (p : ℕ) → p < length job.names → party_of_name line job.names (slice_index_or job.names p []) ≡ Ok p
  unfolding party_of_name
  number_back p lt =
      let name : List ℕ = slice_index_or job.names p [] in
      let self : bytes_eq name name ≡ true = bytes_eq_self name in
      let other : (j : ℕ) → j < p → bytes_eq name (get_or job.names j []) ≡ false =
      λ j less. not_true (bytes_eq name (get_or job.names j [])) (λ t.
      let same : p ≡ j = k.apart p j lt (omega (arith, less, lt)) (bytes_eq-true name (get_or job.names j []) t) in
      omega (arith, same, less)) in
      let z : ◌≡◌ {A = ℕ} (0 + p) p = omega arith in
      ap (found_place line name) (position_from-zero (bytes_eq name) job.names ∙ first_at (bytes_eq name) job.names [] p 0 lt self other
      ∙ ap (λ (n : ℕ). Some n) z)

  -- ---- names, arcs and leaders

  pub name_on : (p : ℕ) → p < length job.names → name_added line (take p job.names) (raw_party job p) ≡ Ok (take (p + 1) job.names)
  unfolding name_added
  name_on p lt =
      let is : is_name (slice_index_or job.names p []) ≡ true = k.names p [] lt in
      rw (is, is_fresh p lt) (ap (λ (l : List (List ℕ)). Ok l) (sym (take_more job.names p [] lt)))

  party_on : (has : List ℕ → Bool) (all : List (List ℕ)) (p : ℕ) → p < length job.names
      → name_step has line all (take p job.names) (raw_party job p) ≡ Ok (take (p + 1) job.names)
  unfolding name_step
  party_on has all p lt =
      step _ (take (p + 1) job.names) _ (name_on p lt) ∙ step _ tt _ (actor_is_known has line all (slice_index_or job.conforming p false))

  parties_on : (has : List ℕ → Bool) (all : List (List ℕ)) (m i : ℕ) → i + m ≡ length job.names
      → steps (name_step has line all) (take i job.names) (map (raw_party job) (range_with_len i m)) ≡ Ok job.names
  unfolding steps
  parties_on has all zero i e = ap (λ (l : List (List ℕ)). Ok l) (take_all i job.names (omega arith))
  parties_on has all (suc m) i e =
      step (name_step has line all (take i job.names) (raw_party job i)) (take (i + 1) job.names)
      (λ t. steps (name_step has line all) t (map (raw_party job) (range_with_len (i + 1) m))) (party_on has all i (omega arith))
      ∙ parties_on has all m (i + 1) (omega arith)

  arc_on : (mode : Mode) (a : ℕ) → a < length job.deal.graph.arcs → named_ends line job.names (raw_arc mode job a) ≡ Ok (ends_at job a)
  unfolding named_ends
  arc_on mode a lt =
      let count : length job.names ≡ job.deal.graph.n = k.parties in
      let from : (ends job.deal.graph a).from < job.deal.graph.n = k.accepted.ends.from a lt in
      let to : (ends job.deal.graph a).to < job.deal.graph.n = k.accepted.ends.to a lt in
      step _ (ends job.deal.graph a).from _ (number_back (ends job.deal.graph a).from (omega (arith, count, from)))
      ∙ step _ (ends job.deal.graph a).to _ (number_back (ends job.deal.graph a).to (omega (arith, count, to)))

  -- a leader that isn't among those before it
  other_leader : (i j : ℕ) → i < length job.deal.leaders → j < i → nat_eq (get_or (take i job.deal.leaders) j 0) (lock_leader job.deal i) ≡ false
  other_leader i j lt less =
      not_true (nat_eq (get_or (take i job.deal.leaders) j 0) (lock_leader job.deal i))
      (λ t.
      let equal : get_or job.deal.leaders j 0 ≡ lock_leader job.deal i = sym (get_or-take i job.deal.leaders j 0 less)
      ∙ eqb-true (get_or (take i job.deal.leaders) j 0) (lock_leader job.deal i) t in
      let same : i ≡ j = k.accepted.apart i j lt (omega (arith, less, lt)) (sym equal) in
      omega (arith, same, less))

  leader_on : (i : ℕ) → i < length job.deal.leaders
      → leader_step line job.names (take i job.deal.leaders) (raw_leader job i) ≡ Ok (take (i + 1) job.deal.leaders)
  unfolding leader_step
  leader_on i lt =
      let count : length job.names ≡ job.deal.graph.n = k.parties in
      let below : lock_leader job.deal i < job.deal.graph.n = k.accepted.leader i lt in
      let size = length-take i job.deal.leaders in
      let fresh : list_any (λ n. nat_eq n (lock_leader job.deal i)) (take i job.deal.leaders) ≡ false =
      any_false (λ n. nat_eq n (lock_leader job.deal i)) (take i job.deal.leaders) 0 (λ j less. other_leader i j lt (omega (arith, less, size))) in
      step _ (lock_leader job.deal i) _ (number_back (lock_leader job.deal i) (omega (arith, count, below)))
      ∙ rw fresh (ap (λ (l : List ℕ). Ok l) (sym (take_more job.deal.leaders i 0 lt)))

  leaders_on : (m i : ℕ) → i + m ≡ length job.deal.leaders
      → steps (leader_step line job.names) (take i job.deal.leaders) (map (raw_leader job) (range_with_len i m)) ≡ Ok job.deal.leaders
  unfolding steps
  leaders_on zero i e = ap (λ (l : List ℕ). Ok l) (take_all i job.deal.leaders (omega arith))
  leaders_on (suc m) i e =
      step (leader_step line job.names (take i job.deal.leaders) (raw_leader job i)) (take (i + 1) job.deal.leaders)
      (λ t. steps (leader_step line job.names) t (map (raw_leader job) (range_with_len (i + 1) m))) (leader_on i (omega arith))
      ∙ leaders_on m (i + 1) (omega arith)

  pub all_arcs : (mode : Mode) → collected_results (named_ends line job.names) (map (raw_arc mode job) (arcs job.deal.graph))
      ≡ Ok (map (ends_at job) (arcs job.deal.graph))
  all_arcs mode =
      each_back (named_ends line job.names) (raw_arc mode job) (ends_at job) (arcs job.deal.graph)
      (λ a i. arc_on mode a (from_range a (length job.deal.graph.arcs) i))

  all_names : (has : List ℕ → Bool) (all : List (List ℕ))
      → steps (name_step has line all) [] (map (raw_party job) (range_with_len 0 job.deal.graph.n)) ≡ Ok job.names
  all_names has all = let count : length job.names ≡ job.deal.graph.n = k.parties in parties_on has all job.deal.graph.n 0 (omega (arith, count))

  pub all_leaders : steps (leader_step line job.names) [] (map (raw_leader job) (range_with_len 0 (length job.deal.leaders))) ≡ Ok job.deal.leaders
  all_leaders = leaders_on (length job.deal.leaders) 0 (omega arith)

  pub numbered_back : (has : List ℕ → Bool) (mode : Mode) → numbered_header has line (raw_header mode job) ≡ Ok (numbered_at job)
  unfolding numbered_header
  numbered_back has mode =
      step _ job.names _ (all_names has (names_stated (map (raw_party job) (range_with_len 0 job.deal.graph.n))))
      ∙ step _ (map (ends_at job) (arcs job.deal.graph)) _ (all_arcs mode)
      ∙ step _ job.deal.leaders _ all_leaders
