-- The deal of a group's header is the group's, and the job is whole.
use Rattle.std.proofs.Common.{◌≡◌, ◌+◌, ◌<◌, ℕ, Bool, true, false, List, [], ◌∷◌, length, map, get_or, Option, Some, None, Ok, refl, sym, ap, ◌∙◌}
use Rattle.std.proofs.Common.{subst, arith}
use Rattle.std.specs.Prelude.{replicate, zip}
use Rattle.std.specs.List.{range_with_len}
use Rattle.std.proofs.lemmas.List.{get_or-map, length-map}
use Rattle.swap_base.proofs.Lists.{from_range}
use Rattle.swap_digraph.specs.declared.arc_ends.ArcEnds.{ArcEnds}
use Rattle.swap_digraph.specs.declared.deal.Deal.{Deal}
use Rattle.swap_digraph.specs.declared.deal.Mode.TheVariants.{Hashkeys}
use Rattle.swap_digraph.specs.declared.deal.Version.TheVariants.{Two}
use Rattle.swap_digraph.specs.Graph.{ends}
use Rattle.hashkey_path.specs.Digest.{deal_id}
use Rattle.swap_job.specs.Roles.{is_conforming}
use Rattle.swap_job.specs.declared.job.Job.{Job}
use Rattle.swap_job.specs.declared.job.Purpose.TheVariants.{Make}
use Rattle.swap_job.specs.declared.job.Finish.TheVariants.{Stop}
use Rattle.swap_job.specs.declared.job.Role.{Role}
use Rattle.swap_job.specs.declared.job.Role.TheVariants.{Conforming}
use Rattle.swap_offer.specs.Proposed.{IsProposed}
use Rattle.offer_header.specs.Header.{IsHeaderInLimits}
use Rattle.offer_header.specs.Limits.{arc_ends, no_digest, no_digests}
use Rattle.offer_header.specs.Raw.{IsUntimed}
use Rattle.offer_header.specs.Scripts.{roles_placed, scripts_placed}
use Rattle.offer_header.specs.declared.header.Header.{Header}
use Rattle.offer_header.specs.declared.limits.Acting.{Acting}
use Rattle.offer_header.specs.declared.limits.ArcTerms.{ArcTerms}
use Rattle.offer_header.specs.declared.raw.RawArc.{RawArc}
use Rattle.offer_header.proofs.Limited.{set_contains_ends}
use Rattle.offer_header.proofs.Numbered.{is_numbered}
use Rattle.swap_offer.specs.Checks.{admitted, header_deal, header_digraph, assemble_job, unless_wrong, unnamed}
use Rattle.swap_offer.specs.Job.{accepted_entries, provided}
use Rattle.swap_offer.specs.Wallets.{no_seed, party_seed, seeded, walleted}
use Rattle.swap_offer.proofs.Admitted.{admitted_is_accepted}
use Rattle.swap_clear.specs.declared.answer.Group.{Group}
use Rattle.swap_clear.specs.Groups.{own_ends}
use Rattle.swap_clear.specs.Led.{own_leaders}
use Rattle.swap_clear.specs.Ready.{own_amounts}
use Rattle.swap_clear.specs.declared.limits.Wishes.{Wishes}
use Rattle.read_back.specs.ClearedJobs.{deal_but_id, group_deal, wished_name, cleared_job, wished_graph, AreDigitTexts, unmade_digests}
use Rattle.read_back.proofs.Steps.{step}
use Rattle.read_back.proofs.ClearedFields.{raw_arc, raw_header, raw_leader, raw_party}
use Rattle.read_back.proofs.Lists.{as_many, pairs_long, same_map, twice}
use Rattle.read_back.proofs.ClearedLimited.{acting_with, header_at, limited_back, terms_at}
use Rattle.read_back.proofs.ClearedNamed.{ends_at, numbered_at, numbered_back}
use Rattle.read_back.proofs.Shape.{ends_are, IsClear}
use Rattle.read_back.proofs.Plain.{none_given}

-- ---- seeds and scripts

-- who conforms has no move that has to stand somewhere
pub roles_stand : (arcs : List ArcEnds) (conforming : List Bool) (line p : ℕ) (seeds : List (List ℕ))
    → roles_placed arcs conforming line p (map (λ (a : Acting). a.role) (map acting_with seeds)) ≡ Ok tt
unfolding roles_placed
roles_stand arcs conforming line p [] = refl
roles_stand arcs conforming line p (s ∷ seeds) = roles_stand arcs conforming line (p + 1) seeds

digits_long : (texts seeds : List (List ℕ)) → AreDigitTexts texts seeds → length seeds ≡ length texts
digits_long texts seeds d = sym (length-map seeds _) ∙ sym (ap length d) ∙ length-map texts _

-- ---- the deal

abbrev deal_by : Wishes → Group → (n : ℕ) → List ArcEnds → List ℕ → List (List ℕ) → List (List (List ℕ)) → List ℕ → List ℕ → Deal
deal_by w group n arcs amounts hashlocks keys timelocks id = record {
  version = Two;
  graph = record { n = n; arcs = arcs };
  leaders = own_leaders group;
  start = w.start;
  delta = w.delta;
  bound = group.bound;
  mode = Hashkeys;
  amounts = amounts;
  hashlocks = hashlocks;
  keys = keys;
  timelocks = timelocks;
  id = id;
}

same_deal : (w : Wishes) (group : Group) (n n' : ℕ) (es es' : List ArcEnds) (ms ms' : List ℕ) (hs hs' : List (List ℕ)) (ks ks' : List (List (List ℕ)))
    (ts ts' id : List ℕ) → n ≡ n' → es ≡ es' → ms ≡ ms' → hs ≡ hs' → ks ≡ ks' → ts ≡ ts'
    → deal_by w group n es ms hs ks ts id ≡ deal_by w group n' es' ms' hs' ks' ts' id
same_deal w group n n' es es' ms ms' hs hs' ks ks' ts ts' id e a m h k t =
    ap (λ (x : ℕ). deal_by w group x es ms hs ks ts id) e
    ∙ ap (λ (x : List ArcEnds). deal_by w group n' x ms hs ks ts id) a
    ∙ ap (λ (x : List ℕ). deal_by w group n' es' x hs ks ts id) m
    ∙ ap (λ (x : List (List ℕ)). deal_by w group n' es' ms' x ks ts id) h
    ∙ ap (λ (x : List (List (List ℕ))). deal_by w group n' es' ms' hs' x ts id) k
    ∙ ap (λ (x : List ℕ). deal_by w group n' es' ms' hs' ks' x id) t

-- ---- the job

abbrev job_by : Wishes → Group → Deal → List Role → List Bool → List (Option (List ℕ)) → Job
job_by w group deal roles conforming seeds = record {
  purpose = Make;
  deal = deal;
  names = map (wished_name w) group.parties;
  roles = roles;
  conforming = conforming;
  seeds = seeds;
  finish = Stop;
}

same_job : (w : Wishes) (group : Group) (d d' : Deal) (rs rs' : List Role) (cs cs' : List Bool) (ss ss' : List (Option (List ℕ)))
    → d ≡ d' → rs ≡ rs' → cs ≡ cs' → ss ≡ ss' → job_by w group d rs cs ss ≡ job_by w group d' rs' cs' ss'
same_job w group d d' rs rs' cs cs' ss ss' e r c s =
    ap (λ (x : Deal). job_by w group x rs cs ss) e
    ∙ ap (λ (x : List Role). job_by w group d' x cs ss) r
    ∙ ap (λ (x : List Bool). job_by w group d' rs' x ss) c
    ∙ ap (λ (x : List (Option (List ℕ))). job_by w group d' rs' cs' x) s

module _ (w : Wishes) (group : Group) (k : IsClear w group) (line : ℕ) (texts seeds : List (List ℕ)) (each : length texts ≡ length group.parties)
    (digits : AreDigitTexts texts seeds) where
  abbrev header : Header
  header = header_at w group texts seeds

  seeds_long : length seeds ≡ length group.parties
  seeds_long = digits_long texts seeds digits ∙ each

  arcs_are : map arc_ends (map (ends_at w group) group.arcs) ≡ map (λ a. own_ends group.parties (ends (wished_graph w) a)) group.arcs
  arcs_are =
      twice arc_ends (ends_at w group) group.arcs
      ∙ same_map _ (λ a. own_ends group.parties (ends (wished_graph w) a)) group.arcs
      (λ a i. ap (own_ends group.parties) (sym (ends_are w.arcs a)))

  locks_are : no_digests (map (raw_leader w) group.leaders) ≡ unmade_digests group
  locks_are = twice (λ l. no_digest) (raw_leader w) group.leaders

  keys_are : map (λ p. no_digests (map (raw_leader w) group.leaders)) (map (raw_party w) (zip group.parties texts))
      ≡ map (λ p. unmade_digests group) group.parties
  keys_are =
      twice (λ p. no_digests (map (raw_leader w) group.leaders)) (raw_party w) (zip group.parties texts)
      ∙ as_many (no_digests (map (raw_leader w) group.leaders)) (zip group.parties texts) group.parties (pairs_long group.parties texts each)
      ∙ ap (λ (l : List (List ℕ)). map (λ p. l) group.parties) locks_are

  unnamed_is : (id : List ℕ) → unnamed header (header_digraph header) id ≡ deal_but_id w group id
  unnamed_is id =
      same_deal w group _ (length group.parties) _ (map (λ a. own_ends group.parties (ends (wished_graph w) a)) group.arcs) _ (own_amounts w.arcs group)
      _ (unmade_digests group) _ (map (λ p. unmade_digests group) group.parties) _ (map (λ a. 0) group.arcs) id
      (length-map group.parties (wished_name w)) arcs_are
      (twice (λ (t : ArcTerms). t.amount) (terms_at w) group.arcs) locks_are keys_are
      (twice (λ (t : ArcTerms). t.timelock) (terms_at w) group.arcs)

  pub deal_is : header_deal header (header_digraph header) ≡ group_deal w group
  deal_is =
      unnamed_is (deal_id (unnamed header (header_digraph header) (replicate 32 0)))
      ∙ ap (λ (d : Deal). deal_but_id w group (deal_id d)) (unnamed_is (replicate 32 0))

  pub is_proposed : IsProposed (group_deal w group)
  is_proposed = record {
    parties = k.ready.parties;
    arcs = k.ready.arcs;
    ends = k.ready.ends;
    of_version = refl;
    strong = k.ready.strong;
    leaders = k.ready.leaders;
    leader = k.ready.leader;
    apart = k.ready.apart;
    led = tt;
    feedback = k.ready.feedback;
    height = k.ready.height;
    is_height = k.ready.is_height;
    delta = k.ready.delta;
    start = k.ready.start;
    bound = k.ready.bound;
    one_amount_each = k.ready.one_amount_each;
    amounts = k.ready.amounts;
  }

  untimed : IsUntimed (raw_header w group texts)
  untimed mode a d lt =
      let size : length (map (raw_arc w) group.arcs) ≡ length group.arcs = length-map group.arcs (raw_arc w) in
      ap (λ (x : RawArc). x.timelock) (get_or-map (raw_arc w) group.arcs a 0 d (omega (arith, lt, size)))

  within : IsHeaderInLimits header
  within =
      set_contains_ends line Make (raw_header w group texts) (numbered_at w group) header
      (is_numbered (λ name. false) line (raw_header w group texts) (numbered_at w group) (numbered_back w group k line texts each (λ name. false))) refl
      untimed (limited_back w group k line texts seeds each digits)

  is_admitted : admitted header ≡ Ok (header_digraph header)
  is_admitted = (admitted_is_accepted header within).1 (subst IsProposed (sym deal_is) is_proposed)

  -- ---- the job

  roles_are : map (λ (a : Acting). a.role) (map acting_with seeds) ≡ map (λ p. Conforming) group.parties
  roles_are = twice (λ (a : Acting). a.role) acting_with seeds ∙ as_many Conforming seeds group.parties seeds_long

  conforming_are : map (λ (a : Acting). is_conforming a.role) (map acting_with seeds) ≡ map (λ p. true) group.parties
  conforming_are = twice (λ (a : Acting). is_conforming a.role) acting_with seeds ∙ as_many true seeds group.parties seeds_long

  job_is : assemble_job header (header_digraph header) ≡ cleared_job w group seeds
  job_is =
      same_job w group _ (group_deal w group) _ (map (λ p. Conforming) group.parties) _ (map (λ p. true) group.parties) _ (map (λ s. Some s) seeds)
      deal_is roles_are conforming_are (twice (λ (a : Acting). a.seed) acting_with seeds)

  seed_is : (p : ℕ) → p < length group.parties → party_seed (cleared_job w group seeds) p ≡ Some (get_or seeds p [])
  seed_is p lt = let size = seeds_long in get_or-map (λ s. Some s) seeds p [] None (omega (arith, lt, size))

  has_seed : (p : ℕ) → p < length group.parties → no_seed (cleared_job w group seeds) p ≡ None
  has_seed p lt = rw (seed_is p lt) refl

  nothing_lacks : provided (cleared_job w group seeds) ≡ Ok tt
  unfolding provided seeded walleted
  nothing_lacks =
      step _ tt _ (ap unless_wrong (none_given (no_seed (cleared_job w group seeds)) (range_with_len 0 (length group.parties))
      (λ p i. has_seed p (from_range p (length group.parties) i))))

  pub accepted_back : accepted_entries header ≡ Ok (cleared_job w group seeds)
  unfolding accepted_entries
  accepted_back =
      step _ (header_digraph header) _ is_admitted
      ∙ step _ tt _ (subst (λ (x : Job). provided x ≡ Ok tt) (sym job_is) nothing_lacks)
      ∙ ap (λ (j : Job). Ok j) job_is

  pub all_placed : scripts_placed line header ≡ Ok tt
  unfolding scripts_placed
  all_placed = roles_stand header.arcs header.conforming line 0 seeds
