-- Lines in a plain form: no blanks, numbers in decimal, and names that need no escape.
use Rattle.std.specs.Prelude.{◌≡◌, ◌&&◌, ◌==◌, ℕ, Bool, not, nat_le, List, Ok}
use Rattle.serde_json.specs.Data.{Data}
use Rattle.offer_moves.specs.Fields.{parse_data}
use Rattle.offer_events.specs.declared.raw.RawEvent.{RawEvent}
use Rattle.offer_events.specs.Reading.{raw_event}

-- a byte that stands between quotes for itself: a printable one of ASCII, neither a quote nor a
-- backslash
abbrev pub is_plain_byte : ℕ → Bool
is_plain_byte x = nat_le 32 x && (nat_le x 126 && (not (x == 34) && not (x == 92)))

-- the line is an object, and its fields say that event
pub record SaysRawEvent (line : ℕ) (text : List ℕ) (raw : RawEvent) : Type 0 where
  pub object : Data
  pub is_object : parse_data line text ≡ Ok object
  pub says : raw_event line object ≡ Ok raw
