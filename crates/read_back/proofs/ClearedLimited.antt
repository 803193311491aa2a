-- The limits of a group's job are kept, and its seeds are those of its digits.
use Rattle.std.proofs.Common.{◌≡◌, ◌^◌, ◌<◌, ◌≤◌, ℕ, true, List, [], ◌∷◌, length, map, Some, Result, Ok, refl}
use Rattle.std.proofs.Common.{◌∙◌, arith}
use Rattle.std.specs.Prelude.{codes, zip}
use Rattle.std.proofs.lemmas.List.{length-map}
use Rattle.hex.specs.Hex.{decode_sized}
use Rattle.hex.specs.declared.error.FromHexError.{FromHexError}
use Rattle.swap_base.specs.Lists.{IsElement}
use Rattle.swap_digraph.proofs.Paths.{in-is_listed}
use Rattle.swap_digraph.specs.declared.deal.Version.TheVariants.{Two}
use Rattle.swap_job.specs.declared.job.Purpose.TheVariants.{Make}
use Rattle.swap_job.specs.declared.job.Role.TheVariants.{Conforming}
use Rattle.offer_moves.specs.Lists.{collected_results}
use Rattle.offer_moves.specs.FieldLimits.{to_digest}
use Rattle.offer_moves.specs.declared.moves.Sizes.{Sizes}
use Rattle.offer_header.specs.declared.limits.Acting.{Acting}
use Rattle.offer_header.specs.declared.limits.ArcTerms.{ArcTerms}
use Rattle.offer_header.specs.declared.header.Header.{Header}
use Rattle.offer_header.specs.Limits.{parse_acting, limited_terms, leader_hashlocks, assemble_header, limited_value, no_digests, count_parties}
use Rattle.offer_header.specs.Limits.{checked_seed, header_sizes, limited_arc_terms}
use Rattle.swap_clear.specs.declared.answer.Group.{Group}
use Rattle.swap_clear.specs.Led.{own, own_leaders}
use Rattle.swap_clear.specs.declared.limits.Wishes.{Wishes}
use Rattle.swap_clear.specs.ClearedText.{proposal}
use Rattle.read_back.specs.ClearedJobs.{wished_graph, AreDigitTexts}
use Rattle.read_back.proofs.Steps.{each_back, step}
use Rattle.read_back.proofs.ClearedFields.{raw_arc, raw_header, raw_leader, raw_party}
use Rattle.read_back.proofs.Lists.{pairs_long}
use Rattle.read_back.proofs.ClearedNamed.{numbered_at}
use Rattle.read_back.proofs.Shape.{IsClear}
use Rattle.read_back.proofs.Bounds.{enough_is_some}
use Rattle.read_back.proofs.HeaderLimited.{within_back, number_back}

-- ---- seeds

abbrev pub acting_with : List ℕ → Acting
acting_with seed = record { role = Conforming; seed = Some seed }

-- what the first of two lists of answers says of the first of what they are answers for
pub heads : (r : Result (List ℕ) FromHexError) (s : List ℕ) (rs ss : List (Result (List ℕ) FromHexError)) → r ∷ rs ≡ Ok s ∷ ss → (r ≡ Ok s) × (rs ≡ ss)
heads r s rs ss e = (cc e, cc e)

seed_back : (w : Wishes) (sizes : Sizes) (names : List (List ℕ)) (line p : ℕ) (text seed : List ℕ) → decode_sized text 32 ≡ Ok seed
    → parse_acting sizes names line (raw_party w (p, text)) ≡ Ok (acting_with seed)
unfolding parse_acting checked_seed to_digest
seed_back w sizes names line p text seed e = rw e refl

seeds_back : (w : Wishes) (sizes : Sizes) (names : List (List ℕ)) (line : ℕ) (ps : List ℕ) (texts seeds : List (List ℕ)) → length texts ≡ length ps
    → AreDigitTexts texts seeds → collected_results (parse_acting sizes names line) (map (raw_party w) (zip ps texts)) ≡ Ok (map acting_with seeds)
unfolding collected_results
seeds_back w sizes names line [] [] [] e d = refl
seeds_back w sizes names line [] [] (s ∷ seeds) e d = absurd (cc d)
seeds_back w sizes names line [] (t ∷ texts) seeds e d = absurd (omega (arith, e))
seeds_back w sizes names line (p ∷ ps) [] seeds e d = absurd (omega (arith, e))
seeds_back w sizes names line (p ∷ ps) (t ∷ texts) [] e d = absurd (cc d)
seeds_back w sizes names line (p ∷ ps) (t ∷ texts) (s ∷ seeds) e d =
    let h = heads (decode_sized t 32) s _ _ d in
    step _ (acting_with s) _ (seed_back w sizes names line p t s h.0)
    ∙ step _ (map acting_with seeds) _ (seeds_back w sizes names line ps texts seeds (omega (arith, e)) h.1)

-- ---- the header

abbrev pub terms_at : Wishes → ℕ → ArcTerms
terms_at w a = record { amount = (proposal w.arcs a).amount; timelock = 0 }

abbrev pub header_at : Wishes → Group → (texts seeds : List (List ℕ)) → Header
header_at w group texts seeds =
    assemble_header Make (raw_header w group texts) (numbered_at w group) w.start w.delta group.bound (map acting_with seeds) (map (terms_at w) group.arcs)
    (no_digests (map (raw_leader w) group.leaders))
    (map (λ p. no_digests (map (raw_leader w) group.leaders)) (map (raw_party w) (zip group.parties texts)))

pub amount_low : (w : Wishes) (group : Group) → IsClear w group → (a : ℕ) → IsElement a group.arcs
    → (1 ≤ (proposal w.arcs a).amount) × ((proposal w.arcs a).amount ≤ 10 ^ 12)
amount_low w group k a i =
    let lt : a < length (wished_graph w).arcs = k.one.arc a (in-is_listed a group.arcs i) in
    let size : length (wished_graph w).arcs ≡ length w.arcs = length-map w.arcs _ in
    k.within.amounts a (omega (arith, lt, size))

module _ (w : Wishes) (group : Group) (k : IsClear w group) (line : ℕ) (texts seeds : List (List ℕ)) (each : length texts ≡ length group.parties)
    (digits : AreDigitTexts texts seeds) where
  parties_act : (sizes : Sizes) (names : List (List ℕ))
      → count_parties Two sizes names line (map (raw_party w) (zip group.parties texts)) ≡ Ok (map acting_with seeds)
  unfolding count_parties
  parties_act sizes names =
      let low : 2 ≤ length group.parties = k.ready.parties.0 in
      let high : length group.parties ≤ 32 = k.ready.parties.1 in
      let size : length (map (raw_party w) (zip group.parties texts)) ≡ length group.parties
      = length-map (zip group.parties texts) (raw_party w) ∙ pairs_long group.parties texts each in
      step _ tt _ (within_back line (codes "parties") 2 32 (length (map (raw_party w) (zip group.parties texts)))
      (omega (arith, low, size)) (omega (arith, high, size)))
      ∙ seeds_back w sizes names line group.parties texts seeds each digits

  term_back : (a : ℕ) → IsElement a group.arcs → limited_arc_terms line (raw_arc w a) ≡ Ok (terms_at w a)
  unfolding limited_arc_terms
  term_back a i =
      let low = amount_low w group k a i in
      step _ tt _ (within_back line (codes "amount") 1 (10 ^ 12) (proposal w.arcs a).amount low.0 low.1)
      ∙ step _ 0 _ (number_back line (codes "timelock") 0 1000000 0 (omega arith) (omega arith))

  terms_back : limited_terms Two line (map (raw_arc w) group.arcs) ≡ Ok (map (terms_at w) group.arcs)
  unfolding limited_terms
  terms_back =
      let own_size : length (own (wished_graph w) group).arcs ≡ length group.arcs = length-map group.arcs _ in
      let low : 2 ≤ length (own (wished_graph w) group).arcs = k.ready.arcs.0 in
      let high : length (own (wished_graph w) group).arcs ≤ 128 = k.ready.arcs.1 in
      let size : length (map (raw_arc w) group.arcs) ≡ length group.arcs = length-map group.arcs (raw_arc w) in
      step _ tt _ (within_back line (codes "arcs") 2 128 (length (map (raw_arc w) group.arcs))
      (omega (arith, low, size, own_size)) (omega (arith, high, size, own_size)))
      ∙ each_back (limited_arc_terms line) (raw_arc w) (terms_at w) group.arcs term_back

  locks_back : leader_hashlocks true line (map (raw_leader w) group.leaders) ≡ Ok (no_digests (map (raw_leader w) group.leaders))
  unfolding leader_hashlocks
  locks_back =
      let low : 1 ≤ length group.leaders = k.led.few.0 in
      let high : length group.leaders ≤ 8 = k.led.few.1 in
      let size : length (map (raw_leader w) group.leaders) ≡ length group.leaders = length-map group.leaders (raw_leader w) in
      step _ tt _ (within_back line (codes "leaders") 1 8 (length (map (raw_leader w) group.leaders)) (omega (arith, low, size))
      (omega (arith, high, size)))

  pub limited_back : limited_value Make line (raw_header w group texts) (numbered_at w group) ≡ Ok (header_at w group texts seeds)
  unfolding limited_value
  limited_back =
      let low : 1 ≤ group.bound
      = enough_is_some (own (wished_graph w) group) (own_leaders group) k.ready.height group.bound k.ready.parties.0 k.ready.leaders.0 k.ready.is_height
      k.ready.bound.0 in
      step _ w.start _ (number_back line (codes "start") 1 1000 w.start k.within.start.0 k.within.start.1)
      ∙ step _ w.delta _ (number_back line (codes "delta") 1 100 w.delta k.within.delta.0 k.within.delta.1)
      ∙ step _ group.bound _ (number_back line (codes "bound") 1 64 group.bound low k.ready.bound.1)
      ∙ step _ (map acting_with seeds) _ (parties_act (header_sizes (raw_header w group texts)) (numbered_at w group).names)
      ∙ step _ (map (terms_at w) group.arcs) _ terms_back
      ∙ step _ (no_digests (map (raw_leader w) group.leaders)) _ locks_back
