-- The limits of a header's numbers and lists, and its digests.
use Rattle.std.specs.Prelude.{All, ℕ, ◌^◌, List, [], Bool, true, false, codes, length, map, replicate, Option, Some, None, Result, Ok}
use Rattle.swap_base.specs.Fault.{◌>>=◌}
use Rattle.swap_digraph.specs.declared.arc_ends.ArcEnds.{ArcEnds}
use Rattle.swap_digraph.specs.declared.deal.Mode.{Mode}
use Rattle.swap_digraph.specs.declared.deal.Mode.TheVariants.{Timelocks, Hashkeys}
use Rattle.swap_digraph.specs.declared.deal.Version.{Version}
use Rattle.swap_digraph.specs.Deal.{most_arcs, most_parties, version_path_limit}
use Rattle.swap_job.specs.Roles.{IsHeld, is_conforming}
use Rattle.swap_job.specs.declared.job.Purpose.{Purpose}
use Rattle.swap_job.specs.declared.job.Role.{Role}
use Rattle.swap_job.specs.declared.job.Role.TheVariants as kinds
use Rattle.offer_moves.specs.declared.moves.Sizes.{Sizes}
use Rattle.offer_moves.specs.declared.raw.RawMove.{RawMove}
use Rattle.offer_moves.specs.Moves.{parse_move}
use Rattle.command_input.specs.declared.reason.Reason.{Reason}
use Rattle.offer_moves.specs.FieldLimits.{ranged_number, check_range, to_digest}
use Rattle.offer_moves.specs.Lists.{collected_results}
use Rattle.offer_header.specs.Raw.{is_plain}
use Rattle.offer_header.specs.declared.raw.RawActor.{RawActor}
use Rattle.offer_header.specs.declared.raw.RawActor.TheVariants.{Conforming, Manual, Script, Strategy}
use Rattle.offer_header.specs.declared.raw.RawParty.{RawParty}
use Rattle.offer_header.specs.declared.raw.RawArc.{RawArc}
use Rattle.offer_header.specs.declared.raw.RawLeader.{RawLeader}
use Rattle.offer_header.specs.declared.raw.RawRow.{RawRow}
use Rattle.offer_header.specs.declared.raw.RawHeader.{RawHeader}
use Rattle.offer_header.specs.declared.names.Ends.{Ends}
use Rattle.offer_header.specs.declared.names.Numbered.{Numbered}
use Rattle.offer_header.specs.declared.limits.Acting.{Acting}
use Rattle.offer_header.specs.declared.limits.ArcTerms.{ArcTerms}
use Rattle.offer_header.specs.declared.header.Header.{Header}

-- ---- parties

abbrev pub seed_or_none : ℕ → Option (List ℕ) → Result (Option (List ℕ)) Reason
seed_or_none line None = Ok None
seed_or_none line (Some text) = to_digest line (codes "seed") text >>= λ seed. Ok (Some seed)

unfoldable pub checked_seed : ℕ → RawParty → Result (Option (List ℕ)) Reason
checked_seed line p = seed_or_none line p.seed

-- a script, by its moves
unfoldable pub script_role : Sizes → List (List ℕ) → ℕ → List RawMove → Result Role Reason
script_role sizes names line raws = do
  u ← check_range line (codes "script") 0 1000 (length raws)
  moves ← collected_results (parse_move sizes names line) raws
  Ok (kinds.Script moves)

-- how a party acts
abbrev pub checked_role : Sizes → List (List ℕ) → ℕ → RawActor → Result Role Reason
checked_role sizes names line Conforming = Ok kinds.Conforming
checked_role sizes names line Manual = Ok kinds.Manual
checked_role sizes names line (Script raws) = script_role sizes names line raws
checked_role sizes names line (Strategy name) = Ok (kinds.Strategy name)

-- how a party acts, and then its seed
unfoldable pub parse_acting : Sizes → List (List ℕ) → ℕ → RawParty → Result Acting Reason
parse_acting sizes names line p = do
  role ← checked_role sizes names line p.actor
  seed ← checked_seed line p
  Ok (record { role = role; seed = seed })

unfoldable pub count_parties : Version → Sizes → List (List ℕ) → ℕ → List RawParty → Result (List Acting) Reason
count_parties version sizes names line parties = do
  u ← check_range line (codes "parties") 2 (most_parties version) (length parties)
  collected_results (parse_acting sizes names line) parties

-- each role's strategy is held
abbrev pub HoldsEach : (List ℕ → Bool) → List Role → Type 0
HoldsEach has roles = All (IsHeld has) roles

-- what the moves of a header's scripts may name: an arc, a lock, and a path of its version
abbrev pub header_sizes : RawHeader → Sizes
header_sizes h = record { arcs = length h.arcs; locks = length h.leaders; path = version_path_limit h.version }

-- ---- arcs

unfoldable pub limited_arc_terms : ℕ → RawArc → Result ArcTerms Reason
limited_arc_terms line a = do
  u ← check_range line (codes "amount") 1 (10 ^ 12) a.amount
  timelock ← ranged_number line (codes "timelock") 0 1000000 a.timelock
  Ok (record { amount = a.amount; timelock = timelock })

unfoldable pub limited_terms : Version → ℕ → List RawArc → Result (List ArcTerms) Reason
limited_terms version line arcs = do
  u ← check_range line (codes "arcs") 2 (most_arcs version) (length arcs)
  collected_results (limited_arc_terms line) arcs

abbrev pub arc_ends : Ends → ArcEnds
arc_ends e = record { from = e.from; to = e.to }

-- ---- leaders and keys

unfoldable pub stated_hashlock : ℕ → RawLeader → Result (List ℕ) Reason
stated_hashlock line l = to_digest line (codes "hashlock") l.hashlock

-- what stands in the place of a hashlock or a key that isn't stated
abbrev pub no_digest : List ℕ
no_digest = replicate 32 0

-- one for each leader
abbrev pub no_digests : List RawLeader → List (List ℕ)
no_digests leaders = map (λ l. no_digest) leaders

abbrev pub read_hashlocks : (plain : Bool) → ℕ → List RawLeader → Result (List (List ℕ)) Reason
read_hashlocks true line leaders = Ok (no_digests leaders)
read_hashlocks false line leaders = collected_results (stated_hashlock line) leaders

unfoldable pub leader_hashlocks : (plain : Bool) → ℕ → List RawLeader → Result (List (List ℕ)) Reason
leader_hashlocks plain line leaders = do
  u ← check_range line (codes "leaders") 1 8 (length leaders)
  read_hashlocks plain line leaders

unfoldable pub key_digest : ℕ → List ℕ → Result (List ℕ) Reason
key_digest line text = to_digest line (codes "keys") text

-- a party's keys, one for each lock
unfoldable pub party_key_row : ℕ → ℕ → RawRow → Result (List (List ℕ)) Reason
party_key_row locks line row = do
  u ← check_range line (codes "keys") locks locks (length row.texts)
  collected_results (key_digest line) row.texts

-- the keys of all parties, as they are stated
unfoldable pub stated_keys : ℕ → RawHeader → Result (List (List (List ℕ))) Reason
stated_keys line h = do
  u ← check_range line (codes "keys") (length h.parties) (length h.parties) (length h.keys)
  collected_results (party_key_row (length h.leaders) line) h.keys

abbrev pub read_listed_keys : (plain : Bool) → ℕ → RawHeader → Result (List (List (List ℕ))) Reason
read_listed_keys true line h = Ok (map (λ p. no_digests h.leaders) h.parties)
read_listed_keys false line h = stated_keys line h

abbrev pub derived_keys : Mode → (plain : Bool) → ℕ → RawHeader → Result (List (List (List ℕ))) Reason
derived_keys Timelocks plain line h = Ok []
derived_keys Hashkeys plain line h = read_listed_keys plain line h

-- ---- the header

-- the header of these parts
abbrev pub assemble_header : Purpose → RawHeader → Numbered → ℕ → ℕ → ℕ → List Acting → List ArcTerms → List (List ℕ) → List (List (List ℕ)) → Header
assemble_header purpose raw numbered start delta bound parties terms hashlocks keys = record {
  purpose = purpose;
  version = raw.version;
  mode = raw.mode;
  start = start;
  delta = delta;
  bound = bound;
  names = numbered.names;
  roles = map (λ p. p.role) parties;
  conforming = map (λ p. is_conforming p.role) parties;
  seeds = map (λ p. p.seed) parties;
  arcs = map arc_ends numbered.arcs;
  amounts = map (λ t. t.amount) terms;
  timelocks = map (λ t. t.timelock) terms;
  leaders = numbered.leaders;
  hashlocks = hashlocks;
  keys = keys;
  finish = raw.finish;
}

-- the lists of a header within their limits, after its numbers
abbrev pub limited_lists : Purpose → ℕ → RawHeader → Numbered → (start delta bound : ℕ) → Result Header Reason
limited_lists purpose line raw numbered start delta bound = do
  parties ← count_parties raw.version (header_sizes raw) numbered.names line raw.parties
  terms ← limited_terms raw.version line raw.arcs
  hashlocks ← leader_hashlocks (is_plain purpose) line raw.leaders
  keys ← derived_keys raw.mode (is_plain purpose) line raw
  Ok (assemble_header purpose raw numbered start delta bound parties terms hashlocks keys)

unfoldable pub limited_value : Purpose → ℕ → RawHeader → Numbered → Result Header Reason
limited_value purpose line raw numbered = do
  start ← ranged_number line (codes "start") 1 1000 raw.start
  delta ← ranged_number line (codes "delta") 1 100 raw.delta
  bound ← ranged_number line (codes "bound") 1 64 raw.bound
  limited_lists purpose line raw numbered start delta bound
