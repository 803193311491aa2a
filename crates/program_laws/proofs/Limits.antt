-- The limits of a header.
use Rattle.std.proofs.Common.{Bool, List, None, Option, Some, codes, false, length, true, ℕ, ◌^◌}
use Rattle.swap_digraph.specs.declared.deal.Mode.{Mode}
use Rattle.swap_digraph.specs.declared.deal.Mode.TheVariants.{Timelocks, Hashkeys}
use Rattle.swap_digraph.specs.declared.deal.Version.{Version}
use Rattle.swap_digraph.specs.Deal.{most_arcs, most_parties}
use Rattle.swap_job.specs.declared.job.Purpose.{Purpose}
use Rattle.offer_moves.specs.declared.moves.Sizes.{Sizes}
use Rattle.offer_moves.specs.declared.raw.RawMove.{RawMove}
use Rattle.offer_moves.specs.Moves.{parse_move}
use Rattle.offer_moves.specs.FieldLimits.{ranged_number, check_range, to_digest}
use Rattle.offer_moves.specs.Lists.{collected_results}
use Rattle.offer_header.specs.Raw.{is_plain}
use Rattle.offer_header.specs.declared.raw.RawActor.{RawActor}
use Rattle.offer_header.specs.declared.raw.RawActor.TheVariants.{Conforming, Manual, Script, Strategy}
use Rattle.offer_header.specs.declared.raw.RawParty.{RawParty}
use Rattle.offer_header.specs.declared.raw.RawArc.{RawArc}
use Rattle.offer_header.specs.declared.raw.RawLeader.{RawLeader}
use Rattle.offer_header.specs.declared.raw.RawRow.{RawRow}
use Rattle.offer_header.specs.declared.raw.RawHeader.{RawHeader}
use Rattle.offer_header.specs.declared.names.Numbered.{Numbered}
use Rattle.offer_header.specs.Limits.{seed_or_none, checked_seed, script_role, checked_role, parse_acting, count_parties, header_sizes, limited_arc_terms}
use Rattle.offer_header.specs.Limits.{limited_terms}
use Rattle.offer_header.specs.Limits.{stated_hashlock}
use Rattle.offer_header.specs.Limits.{read_hashlocks, leader_hashlocks, key_digest, party_key_row, stated_keys, read_listed_keys, derived_keys}
use Rattle.offer_header.specs.Limits.{limited_lists, limited_value}
use Rattle.program_laws.proofs.Bare.{Bare, onward, landed, each_of_bare}
use Rattle.program_laws.proofs.Fields.{within_bare, number_within_bare, digest_of_bare}
use Rattle.program_laws.proofs.Moves.{move_of_bare}

pub seed_or_none_bare : (line : ℕ) (x1 : Option (List ℕ)) → Bare (seed_or_none line x1)
seed_or_none_bare line None = landed _
seed_or_none_bare line (Some text) = onward (to_digest line (codes "seed") text) _ (digest_of_bare line (codes "seed") text) (λ seed. landed _)

pub seed_of_bare : (line : ℕ) (p : RawParty) → Bare (checked_seed line p)
unfolding checked_seed
seed_of_bare line p = seed_or_none_bare line p.seed

pub script_role_bare : (sizes : Sizes) (names : List (List ℕ)) (line : ℕ) (raws : List RawMove) → Bare (script_role sizes names line raws)
unfolding script_role
script_role_bare sizes names line raws =
    onward (check_range line (codes "script") 0 1000 (length raws)) _ (within_bare line (codes "script") 0 1000 (length raws))
    (λ u. onward (collected_results (parse_move sizes names line) raws)
    _ (each_of_bare (parse_move sizes names line) (move_of_bare sizes names line) raws) (λ moves. landed _))

pub role_of_bare : (sizes : Sizes) (names : List (List ℕ)) (line : ℕ) (x3 : RawActor) → Bare (checked_role sizes names line x3)
role_of_bare sizes names line Conforming = landed _
role_of_bare sizes names line Manual = landed _
role_of_bare sizes names line (Script raws) = script_role_bare sizes names line raws
role_of_bare sizes names line (Strategy name) = landed _

pub acting_of_bare : (sizes : Sizes) (names : List (List ℕ)) (line : ℕ) (p : RawParty) → Bare (parse_acting sizes names line p)
unfolding parse_acting
acting_of_bare sizes names line p =
    onward (checked_role sizes names line p.actor) _ (role_of_bare sizes names line p.actor)
    (λ role. onward (checked_seed line p) _ (seed_of_bare line p) (λ seed. landed _))

pub parties_of_bare : (version : Version) (sizes : Sizes) (names : List (List ℕ)) (line : ℕ) (parties : List RawParty)
    → Bare (count_parties version sizes names line parties)
unfolding count_parties
parties_of_bare version sizes names line parties =
    onward (check_range line (codes "parties") 2 (most_parties version) (length parties)) _ (within_bare line (codes "parties") 2 (most_parties version)
    (length parties)) (λ u. each_of_bare (parse_acting sizes names line) (acting_of_bare sizes names line) parties)

pub terms_of_bare : (line : ℕ) (a : RawArc) → Bare (limited_arc_terms line a)
unfolding limited_arc_terms
terms_of_bare line a =
    onward (check_range line (codes "amount") 1 (10 ^ 12) a.amount) _ (within_bare line (codes "amount") 1 (10 ^ 12) a.amount)
    (λ u. onward (ranged_number line (codes "timelock") 0 1000000 a.timelock)
    _ (number_within_bare line (codes "timelock") 0 1000000 a.timelock) (λ timelock. landed _))

pub all_terms_of_bare : (version : Version) (line : ℕ) (arcs : List RawArc) → Bare (limited_terms version line arcs)
unfolding limited_terms
all_terms_of_bare version line arcs =
    onward (check_range line (codes "arcs") 2 (most_arcs version) (length arcs))
    _ (within_bare line (codes "arcs") 2 (most_arcs version) (length arcs)) (λ u. each_of_bare (limited_arc_terms line) (terms_of_bare line) arcs)

pub hashlock_of_bare : (line : ℕ) (l : RawLeader) → Bare (stated_hashlock line l)
unfolding stated_hashlock
hashlock_of_bare line l = digest_of_bare line (codes "hashlock") l.hashlock

pub hashlocks_by_bare : (true : Bool) (line : ℕ) (leaders : List RawLeader) → Bare (read_hashlocks true line leaders)
hashlocks_by_bare true line leaders = landed _
hashlocks_by_bare false line leaders = each_of_bare (stated_hashlock line) (hashlock_of_bare line) leaders

pub hashlocks_of_bare : (plain : Bool) (line : ℕ) (leaders : List RawLeader) → Bare (leader_hashlocks plain line leaders)
unfolding leader_hashlocks
hashlocks_of_bare plain line leaders =
    onward (check_range line (codes "leaders") 1 8 (length leaders))
    _ (within_bare line (codes "leaders") 1 8 (length leaders)) (λ u. hashlocks_by_bare plain line leaders)

pub key_of_bare : (line : ℕ) (text : List ℕ) → Bare (key_digest line text)
unfolding key_digest
key_of_bare line text = digest_of_bare line (codes "keys") text

pub party_keys_of_bare : (locks : ℕ) (line : ℕ) (row : RawRow) → Bare (party_key_row locks line row)
unfolding party_key_row
party_keys_of_bare locks line row =
    onward (check_range line (codes "keys") locks locks (length row.texts))
    _ (within_bare line (codes "keys") locks locks (length row.texts)) (λ u. each_of_bare (key_digest line) (key_of_bare line) row.texts)

pub stated_keys_of_bare : (line : ℕ) (h : RawHeader) → Bare (stated_keys line h)
unfolding stated_keys
stated_keys_of_bare line h =
    onward (check_range line (codes "keys") (length h.parties) (length h.parties) (length h.keys)) _ (within_bare line (codes "keys") (length h.parties)
    (length h.parties) (length h.keys)) (λ u. each_of_bare (party_key_row (length h.leaders) line) (party_keys_of_bare (length h.leaders) line) h.keys)

pub keys_by_bare : (true : Bool) (line : ℕ) (h : RawHeader) → Bare (read_listed_keys true line h)
keys_by_bare true line h = landed _
keys_by_bare false line h = stated_keys_of_bare line h

pub keys_of_bare : (x0 : Mode) (plain : Bool) (line : ℕ) (h : RawHeader) → Bare (derived_keys x0 plain line h)
keys_of_bare Timelocks plain line h = landed _
keys_of_bare Hashkeys plain line h = keys_by_bare plain line h

pub parts_of_bare : (purpose : Purpose) (line : ℕ) (raw : RawHeader) (numbered : Numbered) (start : ℕ) (delta : ℕ) (bound : ℕ)
    → Bare (limited_lists purpose line raw numbered start delta bound)
parts_of_bare purpose line raw numbered start delta bound =
    onward (count_parties raw.version (header_sizes raw) numbered.names line raw.parties)
    _ (parties_of_bare raw.version (header_sizes raw) numbered.names line raw.parties)
    (λ parties. onward (limited_terms raw.version line raw.arcs) _ (all_terms_of_bare raw.version line raw.arcs)
    (λ terms. onward (leader_hashlocks (is_plain purpose) line raw.leaders) _ (hashlocks_of_bare (is_plain purpose) line raw.leaders)
    (λ hashlocks. onward (derived_keys raw.mode (is_plain purpose) line raw) _ (keys_of_bare raw.mode (is_plain purpose) line raw) (λ keys. landed _))))

pub limited_of_bare : (purpose : Purpose) (line : ℕ) (raw : RawHeader) (numbered : Numbered) → Bare (limited_value purpose line raw numbered)
unfolding limited_value
limited_of_bare purpose line raw numbered =
    onward (ranged_number line (codes "start") 1 1000 raw.start) _ (number_within_bare line (codes "start") 1 1000 raw.start)
    (λ start. onward (ranged_number line (codes "delta") 1 100 raw.delta) _ (number_within_bare line (codes "delta") 1 100 raw.delta)
    (λ delta. onward (ranged_number line (codes "bound") 1 64 raw.bound)
    _ (number_within_bare line (codes "bound") 1 64 raw.bound) (λ bound. parts_of_bare purpose line raw numbered start delta bound)))
