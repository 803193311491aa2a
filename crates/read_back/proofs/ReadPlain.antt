-- What is read for making is told whole once it is made.
use Rattle.std.proofs.Common.{◌≡◌, ◌≤◌, ℕ, Bool, List, length, Option, Some, None, Ok, refl, sym, ap, ap₂, ◌∙◌}
use Rattle.std.proofs.Common.{subst, arith, codes}
use Rattle.std.specs.Prelude.{All}
use Rattle.std.proofs.lemmas.List.{length-map}
use Rattle.std.proofs.lemmas.List.Elements.{All-map}
use Rattle.swap_digraph.specs.Value.{Graph}
use Rattle.swap_digraph.specs.Deal.{most_parties, version_path_limit}
use Rattle.swap_digraph.specs.declared.deal.Version.{Version}
use Rattle.swap_job.specs.Roles.{IsHeld}
use Rattle.swap_job.specs.declared.job.Job.{Job}
use Rattle.swap_job.specs.declared.job.Purpose.{Purpose}
use Rattle.swap_job.specs.declared.job.Purpose.TheVariants.{Make}
use Rattle.swap_job.specs.declared.job.Role.{Role}
use Rattle.swap_job.specs.declared.job.Role.TheVariants as kinds
use Rattle.offer_moves.specs.Fields.{parse_data}
use Rattle.offer_moves.specs.FieldLimits.{check_range}
use Rattle.offer_moves.specs.Lists.{collected_results}
use Rattle.offer_moves.proofs.Chains.{each_all, each_length, went}
use Rattle.offer_moves.specs.Moves.{parse_move}
use Rattle.offer_moves.specs.declared.moves.Sizes.{Sizes}
use Rattle.offer_header.specs.Header.{parse_whole_header, IsHeaderInLimits}
use Rattle.offer_header.specs.Limits.{parse_acting, arc_ends, limited_value, count_parties, checked_role, script_role, checked_seed, seed_or_none}
use Rattle.offer_header.specs.Limits.{header_sizes, HoldsEach}
use Rattle.offer_header.specs.Names.{numbered_header, IsNumbered}
use Rattle.offer_header.specs.Raw.{object_header}
use Rattle.offer_header.specs.Scripts.{roles_placed, scripts_placed}
use Rattle.offer_header.specs.declared.header.Header.{Header}
use Rattle.offer_header.specs.declared.limits.Acting.{Acting}
use Rattle.offer_header.specs.declared.names.Numbered.{Numbered}
use Rattle.offer_header.specs.declared.raw.RawActor.{RawActor}
use Rattle.offer_header.specs.declared.raw.RawActor.TheVariants.{Conforming, Manual, Script, Strategy}
use Rattle.offer_header.specs.declared.raw.RawHeader.{RawHeader}
use Rattle.offer_header.specs.declared.raw.RawParty.{RawParty}
use Rattle.offer_header.proofs.Held.{are_held}
use Rattle.offer_header.proofs.Limited.{set_contains_ends, opened, Opened}
use Rattle.offer_header.proofs.Numbered.{is_numbered}
use Rattle.offer_moves.specs.FieldLimits.{to_digest}
use Rattle.offer_moves.proofs.Ranges.{within_ok}
use Rattle.swap_offer.specs.Proposed.{IsProposed}
use Rattle.swap_offer.specs.Checks.{admitted, header_deal, header_digraph, assemble_job, IsAcceptedOrProposed}
use Rattle.swap_offer.specs.Job.{accepted_entries, parse_header_job, provided}
use Rattle.swap_offer.specs.Wallets.{seeded, walleted, HaveRequiredSeeds}
use Rattle.swap_offer.proofs.Admitted.{admitted_is_accepted}
use Rattle.swap_offer.proofs.Seeds.{seeds_on}
use Rattle.read_back.proofs.Onward.{landed, onward}
use Rattle.read_back.proofs.Showable.{admitted_graph, digest_is, good_names, raw_fits, IsFit, IsGood}
use Rattle.read_back.specs.Made.{HasTexts}
use Rattle.read_back.proofs.MoveLimits.{read_move, IsLimited, IsSmall}
use Rattle.read_back.proofs.Placed.{placed_anywhere}
use Rattle.read_back.proofs.Plain.{IsPlainJob}
use Rattle.read_back.proofs.ToldJobs.{few_arcs, IsToldRole, MayBeDigest}

-- ---- how a party acts, and its seed

-- a script within its limits
abbrev IsScriptIn : Sizes → ℕ → Role → Type 0
IsScriptIn s n (kinds.Script moves) = (length moves ≤ 1000) × All (IsLimited s n) moves
IsScriptIn s n _ = Unit {0}

abbrev IsActingIn : Sizes → ℕ → Acting → Type 0
IsActingIn s n a = IsScriptIn s n a.role × MayBeDigest a.seed

seed_is : (line : ℕ) (o seed : Option (List ℕ)) → seed_or_none line o ≡ Ok seed → MayBeDigest seed
seed_is line None = landed None MayBeDigest tt
seed_is line (Some text) =
    onward (to_digest line (codes "seed") text) _ MayBeDigest (λ seed e. landed (Some seed) MayBeDigest (digest_is line (codes "seed") text seed e))

module _ (s : Sizes) (small : IsSmall s) (names : List (List ℕ)) (line : ℕ) where
  role_is : (actor : RawActor) (role : Role) → checked_role s names line actor ≡ Ok role → IsScriptIn s (length names) role
  unfolding script_role
  role_is Conforming = landed kinds.Conforming (IsScriptIn s (length names)) tt
  role_is Manual = landed kinds.Manual (IsScriptIn s (length names)) tt
  role_is (Script raws) =
      onward (check_range line (codes "script") 0 1000 (length raws)) _ (IsScriptIn s (length names)) (λ u w.
      onward (collected_results (parse_move s names line) raws) _ (IsScriptIn s (length names)) (λ moves e.
      let size : length moves ≡ length raws = each_length (parse_move s names line) raws moves e in
      let few = (within_ok line (codes "script") 0 1000 (length raws) u w).1 in
      landed (kinds.Script moves) (IsScriptIn s (length names)) (
        omega (arith, size, few),
        each_all (IsLimited s (length names)) (parse_move s names line) (read_move s small names line) raws moves e,
      )))
  role_is (Strategy name) = landed (kinds.Strategy name) (IsScriptIn s (length names)) tt

  acting_is : (p : RawParty) (a : Acting) → parse_acting s names line p ≡ Ok a → IsActingIn s (length names) a
  unfolding parse_acting checked_seed
  acting_is p =
      onward (checked_role s names line p.actor) _ (IsActingIn s (length names)) (λ role r.
      onward (seed_or_none line p.seed) _ (IsActingIn s (length names)) (λ seed e.
      landed (record { role = role; seed = seed }) (IsActingIn s (length names)) (role_is p.actor role r, seed_is line p.seed seed e)))

  all_acting : (v : Version) (ps : List RawParty) (acting : List Acting) → count_parties v s names line ps ≡ Ok acting
      → All (IsActingIn s (length names)) acting
  unfolding count_parties
  all_acting v ps =
      onward (check_range line (codes "parties") 2 (most_parties v) (length ps)) _ (All (IsActingIn s (length names))) (λ u w acting e.
      each_all (IsActingIn s (length names)) (parse_acting s names line) acting_is ps acting e)

-- ---- the header

-- what the moves of a header's scripts may name
abbrev sizes_of_header : Header → Sizes
sizes_of_header h = record { arcs = length h.arcs; locks = length h.leaders; path = version_path_limit h.version }

-- What is known of a header that is read for making.
record IsReadToMake (has : List ℕ → Bool) (h : Header) : Type 0 where
  purpose : h.purpose ≡ Make
  within : IsHeaderInLimits h
  names : All IsGood h.names
  digests : All MayBeDigest h.seeds
  scripts : All (IsScriptIn (sizes_of_header h) (length h.names)) h.roles
  held : HoldsEach has h.roles
  placed : (line : ℕ) → roles_placed h.arcs h.conforming line 0 h.roles ≡ Ok tt

sizes_are : (line : ℕ) (raw : RawHeader) (n : Numbered) (h : Header) → IsNumbered raw n → Opened line Make raw n h → header_sizes raw ≡ sizes_of_header h
sizes_are line raw n h k o =
    ap₂ (λ (a l : ℕ). let s : Sizes = record { arcs = a; locks = l; path = version_path_limit raw.version } in s)
    (sym k.arcs ∙ sym (length-map n.arcs arc_ends)) (sym k.leaders)
    ∙ ap (λ (x : Header). sizes_of_header x) o.same

limited_is : (has : List ℕ → Bool) (line : ℕ) (raw : RawHeader) (n : Numbered) (h : Header) (u : Unit {0}) → IsFit raw → numbered_header has line raw ≡ Ok n
    → limited_value Make line raw n ≡ Ok h → scripts_placed line h ≡ Ok u → IsReadToMake has h
unfolding scripts_placed
limited_is has line raw n h u fit m l s =
    let numbered = is_numbered has line raw n m in
    let o = opened line Make raw n h l in
    let within = set_contains_ends line Make raw n h numbered fit.0 fit.1 l in
    let sizes : header_sizes raw ≡ sizes_of_header h = sizes_are line raw n h numbered o in
    let small : IsSmall (sizes_of_header h) = record { arcs = few_arcs h.version (length h.arcs) within.arcs.1; locks = within.leaders.1 } in
    let acting = all_acting (header_sizes raw) (subst IsSmall (sym sizes) small) n.names line raw.version raw.parties o.acting o.acting_are in
    let names : n.names ≡ h.names = ap (λ (x : Header). x.names) o.same in
    record {
      purpose = ap (λ (x : Header). x.purpose) (sym o.same);
      within = within;
      names = subst (All IsGood) names (good_names has line raw n m);
      digests = subst (All MayBeDigest) (ap (λ (x : Header). x.seeds) o.same)
          (All-map MayBeDigest (λ (a : Acting). a.seed) o.acting (λ i e lt. (acting i e lt).1));
      scripts = subst (λ (z : Sizes). All (IsScriptIn z (length h.names)) h.roles) sizes
          (subst (λ (x : Header). All (IsScriptIn (header_sizes raw) (length x.names)) x.roles) o.same
          (All-map (IsScriptIn (header_sizes raw) (length n.names)) (λ (a : Acting). a.role) o.acting (λ i e lt. (acting i e lt).0)));
      held = are_held has line Make raw n h m l;
      placed = placed_anywhere h.arcs h.conforming line 0 h.roles u s;
    }

header_is : (has : List ℕ → Bool) (line : ℕ) (text : List ℕ) (h : Header) → parse_whole_header has Make line text ≡ Ok h → IsReadToMake has h
unfolding parse_whole_header
header_is has line text =
    onward (parse_data line text) _ (IsReadToMake has) (λ d o.
    onward (object_header Make line d) _ (IsReadToMake has) (λ raw r.
    onward (numbered_header has line raw) _ (IsReadToMake has) (λ n m.
    onward (limited_value Make line raw n) _ (IsReadToMake has) (λ h l.
    onward (scripts_placed line h) _ (IsReadToMake has) (λ u s.
    landed h (IsReadToMake has) (limited_is has line raw n h u (raw_fits Make line d raw r) m l s))))))

-- ---- the job

role_said : (has : List ℕ → Bool) (s : Sizes) (n : ℕ) → HasTexts has → (role : Role) → IsScriptIn s n role → IsHeld has role → IsToldRole has s n role
role_said has s n texts kinds.Conforming k h = tt
role_said has s n texts kinds.Manual k h = tt
role_said has s n texts (kinds.Script moves) k h = k
role_said has s n texts (kinds.Strategy name) k h = (h, texts name h)

module _ (has : List ℕ → Bool) (texts : HasTexts has) (h : Header) (k : IsReadToMake has h) (made : admitted h ≡ Ok (header_digraph h)) where
  abbrev job : Job
  job = assemble_job h (header_digraph h)

  is_proposed : IsProposed (header_deal h (header_digraph h))
  is_proposed =
      subst (λ (p : Purpose). IsAcceptedOrProposed p (header_deal h (header_digraph h))) k.purpose ((admitted_is_accepted h k.within).0 made)

  all_said : All (IsToldRole has (sizes_of_header h) (length h.names)) h.roles
  all_said i d lt = role_said has (sizes_of_header h) (length h.names) texts _ (k.scripts i d lt) (k.held i d lt)

  plain_with : (u : Unit {0}) → seeded job ≡ Ok u → IsPlainJob has job
  plain_with u s = record {
    proposed = is_proposed;
    parties = refl;
    names = k.names;
    apart = k.within.names.apart;
    roles = k.within.roles;
    acting = k.within.conforming;
    seeds = k.within.seeds;
    digests = k.digests;
    said = all_said;
    placed = k.placed;
    have = subst (λ (p : Purpose). HaveRequiredSeeds p job) k.purpose (seeds_on {X = Unit {0}} job u (Ok tt) s);
  }

  is_plain_job : (u : Unit {0}) → provided job ≡ Ok u → IsPlainJob has job
  unfolding provided
  is_plain_job u p = let first = went (seeded job) (λ v. walleted job) u p in plain_with first.0 first.1

plain_by : (has : List ℕ → Bool) → HasTexts has → (h : Header) → IsReadToMake has h → (g : Graph) → admitted h ≡ Ok g → (u : Unit {0})
    → provided (assemble_job h g) ≡ Ok u → IsPlainJob has (assemble_job h g)
plain_by has texts h k g a u p =
    let same : header_digraph h ≡ g = admitted_graph h g a in
    subst (λ (x : Graph). IsPlainJob has (assemble_job h x)) same
    (is_plain_job has texts h k (subst (λ (x : Graph). admitted h ≡ Ok x) (sym same) a) u
    (subst (λ (x : Graph). provided (assemble_job h x) ≡ Ok u) (sym same) p))

accepted_is : (has : List ℕ → Bool) → HasTexts has → (h : Header) → IsReadToMake has h → (job : Job) → accepted_entries h ≡ Ok job → IsPlainJob has job
unfolding accepted_entries
accepted_is has texts h k =
    onward (admitted h) _ (IsPlainJob has) (λ g a.
    onward (provided (assemble_job h g)) _ (IsPlainJob has) (λ u p. landed (assemble_job h g) (IsPlainJob has) (plain_by has texts h k g a u p)))

pub read_is_plain : (has : List ℕ → Bool) → HasTexts has → (line : ℕ) (text : List ℕ) (job : Job) → parse_header_job has Make line text ≡ Ok job
    → IsPlainJob has job
unfolding parse_header_job
read_is_plain has texts line text =
    onward (parse_whole_header has Make line text) _ (IsPlainJob has) (λ h e. accepted_is has texts h (header_is has line text h e))
