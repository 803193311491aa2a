-- A transcript's header tells no seed and no finish.
use Rattle.std.proofs.Common.{◌≡◌, ℕ, ◌<◌, Bool, true, false, nat_lt, length, get_or, map, List, [], Option, None, Ok, refl, sym, ap, ◌∙◌, codes}
use Rattle.std.proofs.Common.{ltb-true, ltb-false, Result, arith}
use Rattle.std.proofs.Math.ListN.{get_or-eq_default}
use Rattle.std.proofs.lemmas.List.{get_or-map, length-map}
use Rattle.serde_json.specs.Data.{Data}
use Rattle.command_input.specs.declared.reason.Reason.{Reason}
use Rattle.swap_digraph.specs.Deal.{most_parties}
use Rattle.swap_digraph.specs.declared.deal.Mode.{Mode}
use Rattle.swap_digraph.specs.declared.deal.Version.{Version}
use Rattle.swap_job.specs.declared.job.Purpose.{Purpose}
use Rattle.swap_job.specs.declared.job.Purpose.TheVariants.{Check, Run, Race, Make, Audit}
use Rattle.offer_moves.specs.Fields.{field_text, required_object, read_array_field, field_list, listed, each, only}
use Rattle.offer_moves.specs.FieldLimits.{check_range}
use Rattle.offer_moves.specs.Lists.{collected_results}
use Rattle.offer_moves.proofs.Chains.{went, each_all, each_at, each_length}
use Rattle.offer_header.specs.Raw.{actor_member, party_fields, parse_party, finish_member, IsUntold}
use Rattle.offer_header.specs.Limits.{seed_or_none, checked_seed, checked_role, parse_acting, count_parties, header_sizes, limited_value}
use Rattle.offer_header.specs.Header.{IsUntoldHeader}
use Rattle.offer_header.proofs.Limited.{opened}
use Rattle.swap_job.specs.declared.job.Role.TheVariants as kinds
use Rattle.offer_moves.specs.declared.moves.Sizes.{Sizes}
use Rattle.offer_header.specs.declared.limits.Acting.{Acting}
use Rattle.offer_header.specs.declared.raw.RawActor.TheVariants.{Manual}
use Rattle.offer_header.specs.declared.raw.RawParty.{RawParty}
use Rattle.offer_header.specs.declared.raw.RawHeader.{RawHeader}
use Rattle.offer_header.specs.declared.names.Numbered.{Numbered}
use Rattle.offer_header.specs.declared.header.Header.{Header}

party_untold : (mode : Mode) (line : ℕ) (d : Data) (p : RawParty) → parse_party (record { purpose = Audit; mode = mode }) line d ≡ Ok p → p.seed ≡ None
unfolding parse_party
party_untold mode line d p h =
    let one = went (required_object line (codes "parties") d) _ p h in
    let two = went (field_text line (codes "name") d) _ p one.2 in
    let three = went (actor_member line Audit d) _ p two.2 in
    let four = went (only line (party_fields Audit) d) _ p three.2 in
    let same : record { name = two.0; actor = three.0; seed = None } ≡ p = cc (four.2) in
    ap (λ (x : RawParty). x.seed) (sym same)

parties_untold : (mode : Mode) (line : ℕ) (d : Data) (ps : List RawParty)
    → field_list line (codes "parties") (parse_party (record { purpose = Audit; mode = mode }) line) d ≡ Ok ps
    → (p : ℕ) (e : RawParty) → p < length ps → (get_or ps p e).seed ≡ None
unfolding field_list each
parties_untold mode line d ps h =
    let read : Data → Result RawParty Reason = parse_party (record { purpose = Audit; mode = mode }) line in
    let one = went (read_array_field line (codes "parties") d) (λ items. each read items) ps h in
    each_all (λ p. p.seed ≡ None) read (λ d p e. party_untold mode line d p e) (listed one.0) ps one.2

pub is_untold : (purpose : Purpose) (mode : Mode) (line : ℕ) (d : Data) (h : RawHeader)
    → field_list line (codes "parties") (parse_party (record { purpose = purpose; mode = mode }) line) d ≡ Ok h.parties
    → finish_member line purpose d ≡ Ok h.finish → IsUntold purpose h
is_untold Audit mode line d h ps f = (parties_untold mode line d h.parties ps, sym (cc f))
is_untold Check mode line d h ps f = tt
is_untold Run mode line d h ps f = tt
is_untold Race mode line d h ps f = tt
is_untold Make mode line d h ps f = tt

-- The header within its limits.

abbrev zero_party : RawParty
zero_party = record { name = []; actor = Manual; seed = None }

abbrev zero_acting : Acting
zero_acting = record { role = kinds.Manual; seed = None }

no_seed : (sizes : Sizes) (names : List (List ℕ)) (line : ℕ) (p : RawParty) (a : Acting) → p.seed ≡ None → parse_acting sizes names line p ≡ Ok a
    → a.seed ≡ None
unfolding parse_acting checked_seed
no_seed sizes names line p a none e =
    let one = went (checked_role sizes names line p.actor) _ a e in
    let two = went (seed_or_none line p.seed) _ a one.2 in
    let s : record { role = one.0; seed = two.0 } ≡ a = cc (two.2) in
    let g : seed_or_none line None ≡ Ok two.0 = ap (seed_or_none line) (sym none) ∙ two.1 in
    let t : None ≡ two.0 = cc g in
    ap (λ (x : Acting). x.seed) (sym s) ∙ sym t

abbrev seeds : List Acting → List (Option (List ℕ))
seeds acting = map (λ (a : Acting). a.seed) acting

no_seeds : (version : Version) (sizes : Sizes) (names : List (List ℕ)) (line : ℕ) (parties : List RawParty) (acting : List Acting)
    → count_parties version sizes names line parties ≡ Ok acting
    → ((p : ℕ) (d : RawParty) → p < length parties → (get_or parties p d).seed ≡ None) → (p : ℕ) → get_or (seeds acting) p None ≡ None
unfolding count_parties
no_seeds version sizes names line parties acting h none p =
    let one = went (check_range line (codes "parties") 2 (most_parties version) (length parties)) _ acting h in
    let size = each_length (parse_acting sizes names line) parties acting one.2 in
    go (nat_lt p (length parties)) refl one.2 size
  where
    go : (b : Bool) → nat_lt p (length parties) ≡ b → collected_results (parse_acting sizes names line) parties ≡ Ok acting → length acting ≡ length parties
        → get_or (seeds acting) p None ≡ None
    go true e each size =
        let lt = ltb-true p (length parties) e in
        get_or-map (λ (a : Acting). a.seed) acting p zero_acting None (omega (arith, lt, size))
        ∙ no_seed sizes names line (get_or parties p zero_party) (get_or acting p zero_acting) (none p zero_party lt)
        (each_at (parse_acting sizes names line) parties acting zero_party zero_acting each p lt)
    go false e each size =
        let le = ltb-false p (length parties) e in
        let n = length-map acting (λ (a : Acting). a.seed) in
        get_or-eq_default (seeds acting) None (omega (arith, le, size, n))

with_told : (purpose : Purpose) (raw : RawHeader) (h : Header) → IsUntold purpose raw
    → (((p : ℕ) (d : RawParty) → p < length raw.parties → (get_or raw.parties p d).seed ≡ None) → (p : ℕ) → get_or h.seeds p None ≡ None)
    → h.finish ≡ raw.finish → IsUntoldHeader purpose h
with_told Audit raw h u none finish = (none u.0, finish ∙ u.1)
with_told Check raw h u none finish = tt
with_told Run raw h u none finish = tt
with_told Race raw h u none finish = tt
with_told Make raw h u none finish = tt

pub limited_untold : (line : ℕ) (purpose : Purpose) (raw : RawHeader) (n : Numbered) (h : Header) → IsUntold purpose raw
    → limited_value purpose line raw n ≡ Ok h → IsUntoldHeader purpose h
limited_untold line purpose raw n h u e =
    let o = opened line purpose raw n h e in
    let told : seeds o.acting ≡ h.seeds = ap (λ (x : Header). x.seeds) o.same in
    let finish : raw.finish ≡ h.finish = ap (λ (x : Header). x.finish) o.same in
    with_told purpose raw h u
    (λ none p. sym (ap (λ (ss : List (Option (List ℕ))). get_or ss p None) told)
    ∙ no_seeds raw.version (header_sizes raw) n.names line raw.parties o.acting o.acting_are none p) (sym finish)
