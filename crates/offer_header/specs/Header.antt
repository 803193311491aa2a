-- What the header line gives, and what holds of every header.
use Rattle.std.specs.Prelude.{◌≡◌, ℕ, ◌<◌, ◌≤◌, ◌^◌, List, [], Bool, true, false, length, map, slice_index, slice_index_or, Option, None, Result, Ok}
use Rattle.swap_base.specs.Fault.{◌>>=◌}
use Rattle.swap_digraph.specs.declared.deal.Mode.{Mode}
use Rattle.swap_digraph.specs.declared.deal.Mode.TheVariants.{Timelocks, Hashkeys}
use Rattle.swap_digraph.specs.Deal.{most_arcs, most_parties}
use Rattle.swap_digraph.specs.Graph.{resolve_all_ends}
use Rattle.swap_job.specs.Roles.{is_conforming}
use Rattle.swap_job.specs.declared.job.Role.{Role}
use Rattle.swap_job.specs.declared.job.Role.TheVariants.{Conforming, Manual}
use Rattle.swap_job.specs.declared.job.Purpose.{Purpose}
use Rattle.swap_job.specs.declared.job.Purpose.TheVariants.{Audit}
use Rattle.swap_job.specs.declared.job.Finish.TheVariants.{Stop}
use Rattle.command_input.specs.declared.reason.Reason.{Reason}
use Rattle.offer_moves.specs.Fields.{parse_data}
use Rattle.offer_header.specs.Raw.{object_header, IsVersionMode}
use Rattle.offer_header.specs.declared.raw.RawHeader.{RawHeader}
use Rattle.offer_header.specs.Names.{numbered_header, AreNames, AreLeaders}
use Rattle.offer_header.specs.Limits.{limited_value}
use Rattle.offer_header.specs.Scripts.{scripts_placed}
use Rattle.offer_header.specs.declared.header.Header.{Header}

-- the header, where the moves of its scripts stand where they may
abbrev pub placed_header : ℕ → Header → Result Header Reason
placed_header line h = do
  u ← scripts_placed line h
  Ok h

-- the header that fields give
abbrev pub resolve_header : (List ℕ → Bool) → Purpose → ℕ → RawHeader → Result Header Reason
resolve_header has purpose line raw = do
  numbered ← numbered_header has line raw
  h ← limited_value purpose line raw numbered
  placed_header line h

-- The header that a line gives, or the first reason why it is refused: all fields come before all
-- names, all names before all limits, and these before where the moves of scripts stand.
unfoldable pub parse_whole_header : (List ℕ → Bool) → Purpose → ℕ → List ℕ → Result Header Reason
parse_whole_header has purpose line text = do
  d ← parse_data line text
  raw ← object_header purpose line d
  resolve_header has purpose line raw

-- The keys have a row per party and a key per lock in hashkeys mode, and are none in timelocks
-- mode.
abbrev pub AreSizedKeys : Mode → ℕ → ℕ → List (List (List ℕ)) → Type 0
AreSizedKeys Timelocks parties locks keys = keys ≡ []
AreSizedKeys Hashkeys parties locks keys = (length keys ≡ parties) × ((p : ℕ) → p < parties → length (slice_index_or keys p []) ≡ locks)

-- A header's lists are as long as its version, names, arcs and leaders ask, its numbers are in
-- their ranges, and its mode is one of its version.
pub record IsHeaderInLimits (h : Header) : Type 0 where
  pub mode : IsVersionMode h.version h.mode
  pub start : (1 ≤ h.start) × (h.start ≤ 1000)
  pub delta : (1 ≤ h.delta) × (h.delta ≤ 100)
  pub bound : (1 ≤ h.bound) × (h.bound ≤ 64)
  pub parties : (2 ≤ length h.names) × (length h.names ≤ most_parties h.version)
  pub names : AreNames h.names
  pub roles : length h.roles ≡ length h.names
  pub conforming : h.conforming ≡ map is_conforming h.roles
  pub seeds : length h.seeds ≡ length h.names
  pub arcs : (2 ≤ length h.arcs) × (length h.arcs ≤ most_arcs h.version)
  pub from : (a : ℕ) → a < length h.arcs → (resolve_all_ends h.arcs a).from < length h.names
  pub to : (a : ℕ) → a < length h.arcs → (resolve_all_ends h.arcs a).to < length h.names
  pub amounts : length h.amounts ≡ length h.arcs
  pub amount : (a : ℕ) → a < length h.arcs → (1 ≤ slice_index h.amounts a) × (slice_index h.amounts a ≤ 10 ^ 12)
  pub timelocks : length h.timelocks ≡ length h.arcs
  pub timelock : (a : ℕ) → a < length h.arcs → slice_index h.timelocks a ≤ 1000000
  pub untimed : h.mode ≡ Hashkeys → (a : ℕ) → a < length h.arcs → slice_index h.timelocks a ≡ 0
  pub leaders : (1 ≤ length h.leaders) × (length h.leaders ≤ 8)
  pub leader : AreLeaders (length h.names) h.leaders
  pub hashlocks : length h.hashlocks ≡ length h.leaders
  pub keys : AreSizedKeys h.mode (length h.names) (length h.leaders) h.keys

-- a transcript's header has no seed, and its finish is to stop
abbrev pub IsUntoldHeader : Purpose → Header → Type 0
IsUntoldHeader Audit h = ((p : ℕ) → slice_index_or {A = Option (List ℕ)} h.seeds p None ≡ None) × (h.finish ≡ Stop)
IsUntoldHeader _ h = Unit {0}

-- the role of a party that conforms, or acts by its own calls alone
abbrev pub simple_role : Bool → Role
simple_role true = Conforming
simple_role false = Manual

-- in a transcript each role is simple
abbrev pub HasSimpleRoles : Purpose → Header → Type 0
HasSimpleRoles Audit h = h.roles ≡ map simple_role h.conforming
HasSimpleRoles _ h = Unit {0}
