-- The limits of a header that is written of a made job are kept, and its lists are those of the
-- job.
use Rattle.std.proofs.Common.{◌≡◌, ◌≤◌, ◌<◌, ℕ, Bool, true, false, List, length, map, Option, Some, None, option_map, Ok, refl, sym, ap, ap₂, ◌∙◌}
use Rattle.std.proofs.Common.{arith, codes}
use Rattle.std.specs.Prelude.{All}
use Rattle.std.specs.List.{range_with_len}
use Rattle.std.proofs.lemmas.List.{length-map}
use Rattle.std.proofs.lemmas.List.Elements.{All-get_or}
use Rattle.std.proofs.lemmas.List.FromFn.{length-map-range_with_len}
use Rattle.std.proofs.lemmas.Str.{utf8_lossy-IsUtf8}
use Rattle.hex.specs.Hex.{encode_lower}
use Rattle.swap_base.proofs.Lists.{from_range}
use Rattle.swap_digraph.specs.Graph.{arcs}
use Rattle.swap_digraph.specs.Deal.{locks, most_parties, version_path_limit, HasKeys}
use Rattle.swap_digraph.specs.declared.deal.Mode.{Mode}
use Rattle.swap_digraph.specs.declared.deal.Mode.TheVariants.{Timelocks, Hashkeys}
use Rattle.swap_job.specs.Roles.{is_conforming}
use Rattle.swap_job.specs.declared.job.Job.{Job}
use Rattle.swap_job.specs.declared.job.Purpose.{Purpose}
use Rattle.swap_job.specs.declared.job.Purpose.TheVariants.{Check, Run, Race, Make, Audit}
use Rattle.swap_job.specs.declared.job.Role.{Role}
use Rattle.swap_job.specs.declared.job.Role.TheVariants as kinds
use Rattle.swap_job.specs.declared.moves.Move.{Move}
use Rattle.swap_rules.specs.Accepted.{IsTimed}
use Rattle.offer_moves.specs.Lists.{collected_results}
use Rattle.offer_moves.specs.Names.{party_of_name}
use Rattle.offer_moves.specs.Moves.{parse_move}
use Rattle.offer_moves.specs.declared.moves.Sizes.{Sizes}
use Rattle.offer_header.specs.Raw.{is_plain}
use Rattle.offer_header.specs.Limits.{parse_acting, arc_ends, leader_hashlocks, derived_keys, limited_value, count_parties, party_key_row, checked_role}
use Rattle.offer_header.specs.Limits.{script_role, checked_seed, seed_or_none, header_sizes, stated_keys}
use Rattle.offer_header.specs.declared.limits.Acting.{Acting}
use Rattle.offer_header.specs.declared.limits.ArcTerms.{ArcTerms}
use Rattle.offer_header.specs.declared.header.Header.{Header}
use Rattle.offer_header.specs.declared.raw.RawHeader.{RawHeader}
use Rattle.typed_books.specs.Typed.{IsDigest}
use Rattle.read_back.proofs.HeaderFields.{raw_arc, raw_leader, raw_row}
use Rattle.read_back.proofs.HeaderLimited.{all_in, amounts_are, digest_back, ends_are, hashlocks_back, resolve_header, in_place, map_self, number_back, places}
use Rattle.read_back.proofs.HeaderLimited.{rows_back, same_header, some_bound, terms_at, terms_back, timelocks_are, within_back}
use Rattle.read_back.proofs.HeaderNamed as named
use Rattle.read_back.proofs.HeaderNamed.{ends_at, numbered_at}
use Rattle.read_back.proofs.Steps.{each_back, step}
use Rattle.read_back.specs.Made.{reads_jobs}
use Rattle.read_back.proofs.MadeFields.{raw_actor, role_at, read_seed, told_header, told_party}
use Rattle.read_back.proofs.MoveLimits.{limited_move_back, IsLimited, IsSmall}
use Rattle.read_back.proofs.RawMoves.{party_label, raw_move}
use Rattle.read_back.proofs.ToldJobs.{sizes_are_small, sizes_at, IsTold, IsToldRole, MayBeDigest}
use Rattle.read_back.proofs.Lists.{twice}

-- ---- how a party acts, and its seed

abbrev acting_at : Job → ℕ → Acting
acting_at job p = record { role = role_at job p; seed = read_seed job p }

seed_back : (line : ℕ) (o : Option (List ℕ)) → MayBeDigest o → seed_or_none line (option_map encode_lower o) ≡ Ok o
seed_back line None k = refl
seed_back line (Some seed) k = step _ seed _ (digest_back line (codes "seed") seed k)

module _ (has : List ℕ → Bool) (s : Sizes) (small : IsSmall s) (names : List (List ℕ)) (line : ℕ)
    (number : (p : ℕ) → p < length names → party_of_name line names (party_label names p) ≡ Ok p) where
  script_back : (moves : List Move) → length moves ≤ 1000 → All (IsLimited s (length names)) moves
      → script_role s names line (map (raw_move names) moves) ≡ Ok (kinds.Script moves)
  unfolding script_role
  script_back moves few all =
      let size : length (map (raw_move names) moves) ≡ length moves = length-map moves (raw_move names) in
      step _ tt _ (within_back line (codes "script") 0 1000 (length (map (raw_move names) moves)) (omega arith) (omega (arith, size, few)))
      ∙ step _ moves _ (each_back (parse_move s names line) (raw_move names) (λ mv. mv) moves
      (λ mv i. limited_move_back s small names line number mv (all_in (IsLimited s (length names)) moves mv all i))
      ∙ ap (λ (l : List Move). Ok l) (map_self moves))

  role_back : (role : Role) → IsToldRole has s (length names) role → checked_role s names line (raw_actor names role) ≡ Ok role
  role_back kinds.Conforming k = refl
  role_back kinds.Manual k = refl
  role_back (kinds.Script moves) k = script_back moves k.0 k.1
  role_back (kinds.Strategy name) k = ap (λ (n : List ℕ). Ok (kinds.Strategy n)) (utf8_lossy-IsUtf8 name k.1)

-- ---- the header

-- the header of a transcript but for its purpose and its finish
abbrev with_finish : Job → Header → Header
with_finish job h = record h { purpose = job.purpose; finish = job.finish }

abbrev pub header_at : Job → Header
header_at job =
    with_finish job (resolve_header job job.roles job.conforming job.seeds job.deal.graph.arcs job.deal.amounts job.deal.timelocks)

pub not_plain : (p : Purpose) → reads_jobs p ≡ true → is_plain p ≡ false
not_plain Check e = refl
not_plain Run e = refl
not_plain Race e = refl
not_plain Make e = absurd (cc e)
not_plain Audit e = absurd (cc e)

module _ (has : List ℕ → Bool) (job : Job) (k : IsTold has job) (line : ℕ) where
  -- ---- parties

  abbrev parties : List ℕ
  parties = range_with_len 0 job.deal.graph.n

  pub role_is : (p : ℕ) → p < job.deal.graph.n → IsToldRole has (sizes_at job) (length job.names) (role_at job p)
  role_is p lt =
      let roles : length job.roles ≡ job.deal.graph.n = k.roles in
      All-get_or (IsToldRole has (sizes_at job) (length job.names)) job.roles p kinds.Manual (omega (arith, roles, lt)) k.said

  seed_is : (p : ℕ) → p < job.deal.graph.n → MayBeDigest (read_seed job p)
  seed_is p lt =
      let seeds : length job.seeds ≡ job.deal.graph.n = k.seeds in
      All-get_or MayBeDigest job.seeds p None (omega (arith, seeds, lt)) k.digests

  party_acts : (p : ℕ) → p < job.deal.graph.n → parse_acting (sizes_at job) job.names line (told_party job p) ≡ Ok (acting_at job p)
  unfolding parse_acting checked_seed
  party_acts p lt =
      step _ (role_at job p) _ (role_back has (sizes_at job) (sizes_are_small has job k) job.names line (named.number_back job k.shown line)
      (role_at job p) (role_is p lt))
      ∙ step _ (read_seed job p) _ (seed_back line (read_seed job p) (seed_is p lt))

  sizes_are : (mode : Mode) → header_sizes (told_header mode job) ≡ sizes_at job
  sizes_are mode =
      ap₂ (λ (a l : ℕ). let s : Sizes = record { arcs = a; locks = l; path = version_path_limit job.deal.version } in s)
      (length-map-range_with_len (raw_arc mode job) 0 (length job.deal.graph.arcs))
      (length-map-range_with_len (raw_leader job) 0 (length job.deal.leaders))

  parties_act : (mode : Mode) → count_parties job.deal.version (header_sizes (told_header mode job)) job.names line (map (told_party job) parties)
      ≡ Ok (map (acting_at job) parties)
  unfolding count_parties
  parties_act mode =
      let low : 2 ≤ job.deal.graph.n = k.shown.accepted.parties.0 in
      let high : job.deal.graph.n ≤ most_parties job.deal.version = k.shown.accepted.parties.1 in
      let size : length (map (told_party job) parties) ≡ job.deal.graph.n = length-map-range_with_len (told_party job) 0 job.deal.graph.n in
      step _ tt _ (within_back line (codes "parties") 2 (most_parties job.deal.version) (length (map (told_party job) parties)) (omega (arith, low, size))
      (omega (arith, high, size)))
      ∙ ap (λ (s : Sizes). collected_results (parse_acting s job.names line) (map (told_party job) parties)) (sizes_are mode)
      ∙ each_back (parse_acting (sizes_at job) job.names line) (told_party job) (acting_at job) parties
      (λ p i. party_acts p (from_range p job.deal.graph.n i))

  roles_are : map (λ (a : Acting). a.role) (map (acting_at job) parties) ≡ job.roles
  roles_are =
      twice (λ (a : Acting). a.role) (acting_at job) parties
      ∙ places (λ (r : Role). r) job.roles kinds.Manual job.deal.graph.n k.roles ∙ map_self job.roles

  conforming_are : map (λ (a : Acting). is_conforming a.role) (map (acting_at job) parties) ≡ job.conforming
  conforming_are =
      twice (λ (a : Acting). is_conforming a.role) (acting_at job) parties
      ∙ places is_conforming job.roles kinds.Manual job.deal.graph.n k.roles ∙ sym k.acting

  seeds_are : map (λ (a : Acting). a.seed) (map (acting_at job) parties) ≡ job.seeds
  seeds_are =
      twice (λ (a : Acting). a.seed) (acting_at job) parties
      ∙ places (λ (s : Option (List ℕ)). s) job.seeds None job.deal.graph.n k.seeds ∙ map_self job.seeds

  -- ---- keys

  stated_back : HasKeys Hashkeys job.deal → stated_keys line (told_header Hashkeys job) ≡ Ok job.deal.keys
  unfolding stated_keys
  stated_back has_keys =
      let size : length (map (told_party job) parties) ≡ job.deal.graph.n = length-map-range_with_len (told_party job) 0 job.deal.graph.n in
      let leaders : length (map (raw_leader job) (locks job.deal)) ≡ length job.deal.leaders
      = length-map-range_with_len (raw_leader job) 0 (length job.deal.leaders) in
      let count : length job.deal.keys ≡ job.deal.graph.n = has_keys.0 in
      let keys : length (map raw_row job.deal.keys) ≡ length job.deal.keys = length-map job.deal.keys raw_row in
      step _ tt _ (within_back line (codes "keys") (length (map (told_party job) parties)) (length (map (told_party job) parties))
      (length (map raw_row job.deal.keys)) (omega (arith, size, count, keys)) (omega (arith, size, count, keys)))
      ∙ ap (λ (n : ℕ). collected_results (party_key_row n line) (map raw_row job.deal.keys)) leaders
      ∙ rows_back job k.shown line job.deal.keys (λ x i. (
        in_place job k.shown line job.deal.keys x (λ p lt. has_keys.1 p (omega (arith, lt, count))) i,
        all_in (All IsDigest) job.deal.keys x k.shown.keys i,
      ))

  keys_back : (mode : Mode) → HasKeys mode job.deal → derived_keys mode false line (told_header mode job) ≡ Ok job.deal.keys
  keys_back Timelocks has_keys = ap (λ (l : List (List (List ℕ))). Ok l) (sym has_keys)
  keys_back Hashkeys has_keys = stated_back has_keys

  -- ---- the header

  is_header : (mode : Mode) → IsTimed mode job.deal → with_finish job (resolve_header job (map (λ (a : Acting). a.role) (map (acting_at job) parties))
      (map (λ (a : Acting). is_conforming a.role) (map (acting_at job) parties)) (map (λ (a : Acting). a.seed) (map (acting_at job) parties))
      (map arc_ends (map (ends_at job) (arcs job.deal.graph))) (map (λ (t : ArcTerms). t.amount) (map (terms_at mode job) (arcs job.deal.graph)))
      (map (λ (t : ArcTerms). t.timelock) (map (terms_at mode job) (arcs job.deal.graph)))) ≡ header_at job
  is_header mode timed =
      ap (with_finish job)
      (same_header job _ job.roles _ job.conforming _ job.seeds _ job.deal.graph.arcs _ job.deal.amounts _ job.deal.timelocks roles_are conforming_are
      seeds_are (ends_are job k.shown line) (amounts_are job k.shown line mode) (timelocks_are job k.shown line mode timed))

  stated_as : is_plain job.purpose ≡ false
  stated_as = not_plain job.purpose k.purpose

  pub limited_back : limited_value job.purpose line (told_header job.deal.mode job) (numbered_at job) ≡ Ok (header_at job)
  unfolding limited_value
  limited_back =
      let mode : Mode = job.deal.mode in
      let delta : 1 ≤ job.deal.delta = k.shown.accepted.delta.0 in
      let start : job.deal.delta ≤ job.deal.start = k.shown.accepted.start.0 in
      let raw : RawHeader = told_header mode job in
      step _ job.deal.start _ (number_back line (codes "start") 1 1000 job.deal.start (omega (arith, delta, start)) k.shown.accepted.start.1)
      ∙ step _ job.deal.delta _ (number_back line (codes "delta") 1 100 job.deal.delta delta k.shown.accepted.delta.1)
      ∙ step _ job.deal.bound _ (number_back line (codes "bound") 1 64 job.deal.bound (some_bound job.deal k.shown.accepted) k.shown.accepted.bound.1)
      ∙ step _ (map (acting_at job) parties) _ (parties_act mode)
      ∙ step _ (map (terms_at mode job) (arcs job.deal.graph)) _ (terms_back job k.shown line mode)
      ∙ step _ job.deal.hashlocks _ (ap (λ (b : Bool). leader_hashlocks b line raw.leaders) stated_as ∙ hashlocks_back job k.shown line)
      ∙ step _ job.deal.keys _ (ap (λ (b : Bool). derived_keys mode b line raw) stated_as ∙ keys_back mode k.shown.accepted.keys)
      ∙ ap (λ (h : Header). Ok h) (is_header mode k.shown.accepted.timed)
