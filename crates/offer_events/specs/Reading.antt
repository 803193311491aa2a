-- What an event line holds: its fields in the order in which they are read, each of its kind, and
-- no others.
use Rattle.std.specs.Prelude.{ℕ, [], ◌∷◌, false, codes, if◌then◌else◌, Result, Ok, Err, is_some}
use Rattle.serde_json.specs.Data.{Data}
use Rattle.serde_json.specs.Find.{get}
use Rattle.swap_base.specs.Fault.{◌>>=◌}
use Rattle.command_input.specs.declared.reason.Reason.{Reason}
use Rattle.command_input.specs.declared.reason.Reason.TheVariants.{Missing}
use Rattle.offer_moves.specs.Fields.{needed, field_number, field_text, optional_field_number, required_object, only}
use Rattle.offer_moves.specs.Reading.{stated_raw_move}
use Rattle.offer_events.specs.declared.raw.RawEvent.{RawEvent}
use Rattle.offer_events.specs.declared.raw.RawEvent.TheVariants.{Tick, Look, Act, Call, Crash}

unfoldable pub raw_tick_event : ℕ → Data → Result RawEvent Reason
raw_tick_event line d = do
  arc ← field_number line (codes "tick") d
  by ← optional_field_number line (codes "by") d
  u ← only line (codes "by" ∷ codes "tick" ∷ []) d
  Ok (Tick arc by)

unfoldable pub raw_look_event : ℕ → Data → Result RawEvent Reason
raw_look_event line d = do
  name ← field_text line (codes "look") d
  arc ← field_number line (codes "arc") d
  u ← only line (codes "arc" ∷ codes "look" ∷ []) d
  Ok (Look name arc)

unfoldable pub raw_act_event : ℕ → Data → Result RawEvent Reason
raw_act_event line d = do
  name ← field_text line (codes "act") d
  u ← only line (codes "act" ∷ []) d
  Ok (Act name)

unfoldable pub submit_call : ℕ → Data → Result RawEvent Reason
submit_call line d = do
  name ← field_text line (codes "call") d
  value ← needed line (codes "move") d
  o ← required_object line (codes "move") value
  mv ← stated_raw_move line false value
  u ← only line (codes "call" ∷ codes "move" ∷ []) d
  Ok (Call name mv)

unfoldable pub raw_crash_event : ℕ → Data → Result RawEvent Reason
raw_crash_event line d = do
  name ← field_text line (codes "crash") d
  after ← field_number line (codes "after") d
  image ← field_number line (codes "image") d
  u ← only line (codes "after" ∷ codes "crash" ∷ codes "image" ∷ []) d
  Ok (Crash name after image)

-- The first of `tick`, `look`, `act`, `call` and `crash` that the line holds decides its form.
unfoldable pub raw_event : ℕ → Data → Result RawEvent Reason
raw_event line d =
    if is_some (get (codes "tick") d) then raw_tick_event line d
    else if is_some (get (codes "look") d) then raw_look_event line d
    else if is_some (get (codes "act") d) then raw_act_event line d
    else if is_some (get (codes "call") d) then submit_call line d
    else if is_some (get (codes "crash") d) then raw_crash_event line d
    else Err (Missing line (codes "tick"))
