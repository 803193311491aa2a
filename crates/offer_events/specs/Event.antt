-- The event that a line asks for, or the first reason against it: its text, its fields, its names,
-- its numbers and texts, and where it stands.
use Rattle.std.specs.Prelude.{ℕ, Bool, true, false, List, [], ◌∷◌, codes, slice_index_or, unwrap_or, if◌then◌else◌, is_some, Option, None, Result, Ok, Err}
use Rattle.swap_base.specs.Fault.{◌>>=◌}
use Rattle.swap_digraph.specs.declared.deal.Deal.{Deal}
use Rattle.swap_job.specs.declared.job.Job.{Job}
use Rattle.swap_job.specs.declared.job.Purpose.{Purpose}
use Rattle.swap_job.specs.declared.job.Purpose.TheVariants.{Check, Race}
use Rattle.swap_job.specs.declared.moves.Move.{Move}
use Rattle.swap_job.specs.declared.moves.Move.TheVariants.{Craft}
use Rattle.swap_job.specs.Crafted.{Seeds}
use Rattle.swap_job.specs.declared.event.Event.{Event}
use Rattle.swap_job.specs.declared.event.Event.TheVariants.{Tick, Look, Act, Call, Crash}
use Rattle.command_input.specs.declared.reason.Reason.{Reason}
use Rattle.command_input.specs.declared.reason.Reason.TheVariants.{NoSeed, EventInRace, NotConforming}
use Rattle.offer_moves.specs.Fields.{parse_data}
use Rattle.offer_moves.specs.FieldLimits.{ranged_number}
use Rattle.offer_moves.specs.Names.{party_of_name}
use Rattle.offer_moves.specs.declared.raw.RawMove.{RawMove}
use Rattle.offer_moves.specs.Moves.{deal_sizes, parse_arc, parse_move}
use Rattle.offer_moves.specs.Placed.{deviating, adjacent, placed}
use Rattle.offer_events.specs.declared.raw.RawEvent.{RawEvent}
use Rattle.offer_events.specs.declared.raw.RawEvent.TheVariants as raws
use Rattle.offer_events.specs.Reading.{raw_event}

-- a tick is by 1 height where it doesn't say
unfoldable pub event_of_tick : Deal → ℕ → ℕ → Option ℕ → Result Event Reason
event_of_tick d line n by = do
  arc ← parse_arc (deal_sizes d) line (codes "tick") n
  heights ← ranged_number line (codes "by") 1 1000000 (unwrap_or by 1)
  Ok (Tick arc heights)

-- a party looks at a ledger of its own arcs
unfoldable pub event_of_look : Job → ℕ → List ℕ → ℕ → Result Event Reason
event_of_look job line name n = do
  p ← party_of_name line job.names name
  arc ← parse_arc (deal_sizes job.deal) line (codes "arc") n
  u ← adjacent job.deal.graph.arcs line p arc
  Ok (Look p arc)

-- a party acts as its role says
unfoldable pub event_of_act : Job → ℕ → List ℕ → Result Event Reason
event_of_act job line name = do
  p ← party_of_name line job.names name
  Ok (Act p)

-- each of the parties has a seed, or the first that has none is the reason
abbrev pub each_seeded : Seeds → List ℕ → Result (Unit {0}) Reason
each_seeded seeds [] = Ok tt
each_seeded seeds (v ∷ vs) = if is_some (slice_index_or seeds v None) then each_seeded seeds vs else Err (NoSeed v)

-- a check needs no seeds
abbrev pub needs_seeds : Purpose → Bool
needs_seeds Check = false
needs_seeds _ = true

-- each party that crafts a hashkey has a seed
abbrev pub crafted_with_seeds : Job → Move → Result (Unit {0}) Reason
crafted_with_seeds job (Craft a lock via onto) = if needs_seeds job.purpose then each_seeded job.seeds via else Ok tt
crafted_with_seeds job _ = Ok tt

-- p may make the move where it stands, and who crafts has seeds
unfoldable pub permitted : Job → ℕ → ℕ → Move → Result (Unit {0}) Reason
permitted job line p mv = do
  u ← placed job.deal.graph.arcs job.conforming line p mv
  crafted_with_seeds job mv

-- a party that deviates makes a call
unfoldable pub event_of_call : Job → ℕ → List ℕ → RawMove → Result Event Reason
event_of_call job line name raw = do
  p ← party_of_name line job.names name
  mv ← parse_move (deal_sizes job.deal) job.names line raw
  u ← deviating line (slice_index_or job.conforming p false)
  w ← permitted job line p mv
  Ok (Call p mv)

-- a party crashes
unfoldable pub event_of_crash : Job → ℕ → List ℕ → ℕ → ℕ → Result Event Reason
event_of_crash job line name n m = do
  p ← party_of_name line job.names name
  k ← ranged_number line (codes "after") 0 3 n
  image ← ranged_number line (codes "image") 0 255 m
  Ok (Crash p k image)

-- the event of what a line says
abbrev pub checked_event : Job → ℕ → RawEvent → Result Event Reason
checked_event job line (raws.Tick n by) = event_of_tick job.deal line n by
checked_event job line (raws.Look name n) = event_of_look job line name n
checked_event job line (raws.Act name) = event_of_act job line name
checked_event job line (raws.Call name raw) = event_of_call job line name raw
checked_event job line (raws.Crash name after image) = event_of_crash job line name after image

-- a race has no events of its own
abbrev pub outside_race : ℕ → Purpose → Result (Unit {0}) Reason
outside_race line Race = Err (EventInRace line)
outside_race line _ = Ok tt

-- only a party that conforms crashes
abbrev pub conforming_crash : List Bool → ℕ → Event → Result (Unit {0}) Reason
conforming_crash conforming line (Crash p k image) = if slice_index_or conforming p false then Ok tt else Err (NotConforming line)
conforming_crash conforming line _ = Ok tt

-- the event that a line asks for by what it says
unfoldable pub asked_event : Job → ℕ → RawEvent → Result Event Reason
asked_event job line raw = do
  event ← checked_event job line raw
  u ← outside_race line job.purpose
  w ← conforming_crash job.conforming line event
  Ok event

-- the event of a line
unfoldable pub parse_event : Job → ℕ → List ℕ → Result Event Reason
parse_event job line text = do
  d ← parse_data line text
  raw ← raw_event line d
  asked_event job line raw
