-- The names of a group's job stand for the places of its parties.
use Rattle.std.proofs.Common.{◌≡◌, inl, ◌<◌, ℕ, nat_eq, Bool, true, false, List, [], ◌∷◌, ◌++◌, length, map, Ok, refl, sym, ap, ◌∙◌, subst, arith, eqb-true}
use Rattle.std.specs.Prelude.{zip}
use Rattle.std.specs.Str.{bytes_eq}
use Rattle.std.specs.List.{list_any}
use Rattle.std.proofs.lemmas.Bool.{ne_eqb}
use Rattle.std.proofs.lemmas.List.{map-append}
use Rattle.swap_base.specs.Fault.{steps}
use Rattle.swap_base.specs.Lists.{IsElement}
use Rattle.swap_base.proofs.Lists.{in_append, in_map, in_from_moment}
use Rattle.swap_digraph.specs.Graph.{is_listed}
use Rattle.swap_digraph.proofs.Paths.{in-is_listed, is_listed-true}
use Rattle.offer_moves.specs.Lists.{collected_results}
use Rattle.offer_header.specs.Names.{named_ends, is_name, leader_step, name_added, name_step, names_stated, numbered_header}
use Rattle.offer_header.specs.declared.names.Ends.{Ends}
use Rattle.offer_header.specs.declared.names.Numbered.{Numbered}
use Rattle.swap_clear.specs.declared.answer.Group.{Group}
use Rattle.swap_clear.specs.Groups.{index_in_set}
use Rattle.swap_clear.specs.Led.{own_leaders}
use Rattle.swap_clear.specs.declared.limits.Wishes.{Wishes}
use Rattle.swap_clear.specs.ClearedText.{proposal}
use Rattle.read_back.specs.ClearedJobs.{wished_name}
use Rattle.read_back.proofs.Steps.{each_back, step}
use Rattle.read_back.proofs.ClearedFields.{raw_arc, raw_header, raw_leader, raw_party}
use Rattle.read_back.proofs.Lists.{first_in, firsts, is_less, none_passes, puts_each, twice}
use Rattle.read_back.proofs.Shape.{is_party, from_in, to_in, number_back, place_apart, same_name, IsClear, not_true}

abbrev pub ends_at : Wishes → Group → ℕ → Ends
ends_at w group a = record { from = index_in_set group.parties (proposal w.arcs a).from; to = index_in_set group.parties (proposal w.arcs a).to }

abbrev pub numbered_at : Wishes → Group → Numbered
numbered_at w group = record { names = map (wished_name w) group.parties; arcs = map (ends_at w group) group.arcs; leaders = own_leaders group }

abbrev pair_name : Wishes → ℕ × List ℕ → List ℕ
pair_name w p = wished_name w p.0

module _ (w : Wishes) (group : Group) (k : IsClear w group) (line : ℕ) (texts : List (List ℕ)) (each : length texts ≡ length group.parties) where
  -- ---- parties

  name_is : (p : ℕ) → p < length w.names → is_name (wished_name w p) ≡ true
  name_is p lt = k.names p [] lt

  in_pairs : (past : List (ℕ × List ℕ)) (x : ℕ × List ℕ) (rest : List (ℕ × List ℕ)) → zip group.parties texts ≡ past ++ x ∷ rest → IsElement x.0 group.parties
  in_pairs past x rest e =
      first_in group.parties texts x (subst (λ (l : List (ℕ × List ℕ)). IsElement x l) (sym e) (in_from_moment past x rest))

  -- a party is greater than those before it
  before : (past : List (ℕ × List ℕ)) (x : ℕ × List ℕ) (rest : List (ℕ × List ℕ)) → zip group.parties texts ≡ past ++ x ∷ rest
      → (y : ℕ × List ℕ) → IsElement y past → y.0 < x.0
  before past x rest e y i =
      let split : group.parties ≡ map (λ (z : ℕ × List ℕ). z.0) past ++ x.0 ∷ map (λ (z : ℕ × List ℕ). z.0) rest
      = sym (firsts group.parties texts each) ∙ ap (map (λ (z : ℕ × List ℕ). z.0)) e ∙ map-append (λ (z : ℕ × List ℕ). z.0) past (x ∷ rest) in
      is_less group.parties (map (λ (z : ℕ × List ℕ). z.0) past) x.0 (map (λ (z : ℕ × List ℕ). z.0) rest) k.one.ascending split y.0
      (in_map (λ (z : ℕ × List ℕ). z.0) past y i)

  name_on : (past : List (ℕ × List ℕ)) (x : ℕ × List ℕ) (rest : List (ℕ × List ℕ)) → zip group.parties texts ≡ past ++ x ∷ rest
      → name_added line (map (pair_name w) past) (raw_party w x) ≡ Ok (map (pair_name w) past ++ pair_name w x ∷ [])
  unfolding name_added
  name_on past x rest e =
      let lt : x.0 < length w.names = is_party w group k line x.0 (in_pairs past x rest e) in
      let fresh : list_any (bytes_eq (wished_name w x.0)) (map (pair_name w) past) ≡ false =
      none_passes (bytes_eq (wished_name w x.0)) (pair_name w) past (λ y i.
      let less : y.0 < x.0 = before past x rest e y i in
      same_name w group k line x.0 y.0 lt (omega (arith, less, lt)) ∙ ne_eqb y.0 x.0 (λ same. omega (arith, less, same))) in
      let good : is_name (wished_name w x.0) ≡ true = name_is x.0 lt in
      rw (good, fresh) refl

  party_on : (has : List ℕ → Bool) (all : List (List ℕ)) (past : List (ℕ × List ℕ)) (x : ℕ × List ℕ) (rest : List (ℕ × List ℕ))
      → zip group.parties texts ≡ past ++ x ∷ rest
      → name_step has line all (map (pair_name w) past) (raw_party w x) ≡ Ok (map (pair_name w) past ++ pair_name w x ∷ [])
  unfolding name_step
  party_on has all past x rest e = step _ (map (pair_name w) past ++ pair_name w x ∷ []) _ (name_on past x rest e)

  all_names : (has : List ℕ → Bool) (all : List (List ℕ))
      → steps (name_step has line all) [] (map (raw_party w) (zip group.parties texts)) ≡ Ok (map (wished_name w) group.parties)
  all_names has all =
      puts_each (name_step has line all) (raw_party w) (pair_name w) [] (zip group.parties texts) (party_on has all)
      ∙ ap (λ (l : List (List ℕ)). Ok l) (sym (twice (wished_name w) (λ (z : ℕ × List ℕ). z.0) (zip group.parties texts))
      ∙ ap (map (wished_name w)) (firsts group.parties texts each))

  -- ---- arcs

  arc_on : (a : ℕ) → IsElement a group.arcs → named_ends line (map (wished_name w) group.parties) (raw_arc w a) ≡ Ok (ends_at w group a)
  unfolding named_ends
  arc_on a i =
      let from = from_in w group k line a i in
      let to = to_in w group k line a i in
      step _ (index_in_set group.parties (proposal w.arcs a).from) _
      (number_back w group k line (proposal w.arcs a).from (is_party w group k line _ (is_listed-true _ group.parties from)) from)
      ∙ step _ (index_in_set group.parties (proposal w.arcs a).to) _
      (number_back w group k line (proposal w.arcs a).to (is_party w group k line _ (is_listed-true _ group.parties to)) to)

  all_arcs : collected_results (named_ends line (map (wished_name w) group.parties)) (map (raw_arc w) group.arcs) ≡ Ok (map (ends_at w group) group.arcs)
  all_arcs = each_back (named_ends line (map (wished_name w) group.parties)) (raw_arc w) (ends_at w group) group.arcs arc_on

  -- ---- leaders

  leads_in : (l : ℕ) → IsElement l group.leaders → is_listed l group.parties ≡ true
  leads_in l i = k.led.among l (in-is_listed l group.leaders i)

  leader_in : (past : List ℕ) (x : ℕ) (rest : List ℕ) → group.leaders ≡ past ++ x ∷ rest → IsElement x group.leaders
  leader_in past x rest e = subst (λ (l : List ℕ). IsElement x l) (sym e) (in_from_moment past x rest)

  leader_before : (past : List ℕ) (x : ℕ) (rest : List ℕ) → group.leaders ≡ past ++ x ∷ rest → (y : ℕ) → IsElement y past → IsElement y group.leaders
  leader_before past x rest e y i = subst (λ (l : List ℕ). IsElement y l) (sym e) (in_append past (x ∷ rest) y (inl i))

  leader_on : (past : List ℕ) (x : ℕ) (rest : List ℕ) → group.leaders ≡ past ++ x ∷ rest
      → leader_step line (map (wished_name w) group.parties) (map (index_in_set group.parties) past) (raw_leader w x)
      ≡ Ok (map (index_in_set group.parties) past ++ index_in_set group.parties x ∷ [])
  unfolding leader_step
  leader_on past x rest e =
      let leads = leads_in x (leader_in past x rest e) in
      let fresh : list_any (λ n. nat_eq n (index_in_set group.parties x)) (map (index_in_set group.parties) past) ≡ false =
      none_passes (λ n. nat_eq n (index_in_set group.parties x)) (index_in_set group.parties) past (λ y i.
      not_true (nat_eq (index_in_set group.parties y) (index_in_set group.parties x)) (λ t.
      let same : y ≡ x = place_apart w group k line y x (leads_in y (leader_before past x rest e y i)) leads
      (eqb-true (index_in_set group.parties y) (index_in_set group.parties x) t) in
      let less : y < x = is_less group.leaders past x rest k.led.ascending e y i in
      omega (arith, same, less))) in
      step _ (index_in_set group.parties x) _
      (number_back w group k line x (is_party w group k line x (is_listed-true x group.parties leads)) leads)
      ∙ rw fresh refl

  all_leaders : steps (leader_step line (map (wished_name w) group.parties)) [] (map (raw_leader w) group.leaders) ≡ Ok (own_leaders group)
  all_leaders = puts_each (leader_step line (map (wished_name w) group.parties)) (raw_leader w) (index_in_set group.parties) [] group.leaders leader_on

  pub numbered_back : (has : List ℕ → Bool) → numbered_header has line (raw_header w group texts) ≡ Ok (numbered_at w group)
  unfolding numbered_header
  numbered_back has =
      step _ (map (wished_name w) group.parties) _ (all_names has (names_stated (map (raw_party w) (zip group.parties texts))))
      ∙ step _ (map (ends_at w group) group.arcs) _ all_arcs
      ∙ step _ (own_leaders group) _ all_leaders
