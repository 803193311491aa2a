-- What the fields of an object say, or the reason why they are refused. A field that is read twice
-- counts as its last member.
use Rattle.std.specs.Prelude.{ℕ, List, [], ◌∷◌, if◌then◌else◌, Option, Some, None, Result, Ok, Err, option_and_then, is_some}
use Rattle.std.specs.Str.{is_utf8, bytes_eq}
use Rattle.std.specs.List.{list_any}
use Rattle.serde_json.specs.Data.{Data, Items, no_items, item, Members, no_members, member}
use Rattle.serde_json.specs.Read.{read}
use Rattle.serde_json.specs.Find.{get, as_number, as_u64, as_str, as_array, as_object}
use Rattle.swap_base.specs.Fault.{◌>>=◌}
use Rattle.offer_moves.specs.Lists.{collected_results}
use Rattle.command_input.specs.declared.reason.Reason.{Reason}
use Rattle.command_input.specs.declared.reason.Reason.TheVariants.{NotJson, Missing, WrongKind, UnknownField}

abbrev pub object_or : ℕ → Option Data → Result Data Reason
object_or line (Some d) = if is_some (as_object d) then Ok d else Err (NotJson line)
object_or line None = Err (NotJson line)

unfoldable pub parse_data : ℕ → List ℕ → Result Data Reason
parse_data line text = if is_utf8 text then object_or line (read text) else Err (NotJson line)

-- the value, or a wrong kind
abbrev pub kind : {A : Type 0} → ℕ → List ℕ → Option A → Result A Reason
kind line field (Some x) = Ok x
kind line field None = Err (WrongKind line field)

abbrev pub present : {A : Type 0} → ℕ → List ℕ → Option A → Result A Reason
present line field (Some x) = Ok x
present line field None = Err (Missing line field)

unfoldable pub needed : ℕ → List ℕ → Data → Result Data Reason
needed line field d = present line field (get field d)

unfoldable pub field_number : ℕ → List ℕ → Data → Result ℕ Reason
field_number line field d = do
  value ← needed line field d
  kind line field (option_and_then as_u64 (as_number value))

unfoldable pub field_text : ℕ → List ℕ → Data → Result (List ℕ) Reason
field_text line field d = do
  value ← needed line field d
  kind line field (as_str value)

-- one of the words that a field may hold
abbrev pub field_word : {A : Type 0} → ℕ → List ℕ → (List ℕ → Option A) → Data → Result A Reason
field_word line field choice_word d = do
  word ← field_text line field d
  kind line field (choice_word word)

abbrev pub optional_number : ℕ → List ℕ → Option Data → Result (Option ℕ) Reason
optional_number line field None = Ok None
optional_number line field (Some d) = do
  n ← kind line field (option_and_then as_u64 (as_number d))
  Ok (Some n)

unfoldable pub optional_field_number : ℕ → List ℕ → Data → Result (Option ℕ) Reason
optional_field_number line field d = optional_number line field (get field d)

abbrev pub first_unknown : List (List ℕ) → Members → Option (List ℕ)
first_unknown allowed no_members = None
first_unknown allowed (member k d ms) = if list_any (bytes_eq k) allowed then first_unknown allowed ms else Some k

abbrev pub no_unknown : ℕ → Option (List ℕ) → Result (Unit {0}) Reason
no_unknown line (Some k) = Err (UnknownField line k)
no_unknown line None = Ok tt

-- The object has no other field. Members stand in the order of their keys' bytes.
unfoldable pub only : ℕ → List (List ℕ) → Data → Result (Unit {0}) Reason
only line allowed d = no_unknown line (option_and_then (first_unknown allowed) (as_object d))

abbrev pub listed : Items → List Data
listed no_items = []
listed (item d ds) = d ∷ listed ds

unfoldable pub each : {A : Type 0} → (Data → Result A Reason) → Items → Result (List A) Reason
each f ds = collected_results f (listed ds)

unfoldable pub read_array_field : ℕ → List ℕ → Data → Result Items Reason
read_array_field line field d = do
  value ← needed line field d
  kind line field (as_array value)

unfoldable pub field_list : {A : Type 0} → ℕ → List ℕ → (Data → Result A Reason) → Data → Result (List A) Reason
field_list line field f d = do
  items ← read_array_field line field d
  each f items

-- a member of the list of this name is an object
unfoldable pub required_object : ℕ → List ℕ → Data → Result (Unit {0}) Reason
required_object line field d = if is_some (as_object d) then Ok tt else Err (WrongKind line field)

abbrev pub optional_text : ℕ → List ℕ → Option Data → Result (Option (List ℕ)) Reason
optional_text line field None = Ok None
optional_text line field (Some d) = do
  s ← kind line field (as_str d)
  Ok (Some s)

unfoldable pub optional_field_text : ℕ → List ℕ → Data → Result (Option (List ℕ)) Reason
optional_field_text line field d = optional_text line field (get field d)

-- a text among the members of the list of this name
unfoldable pub text_member : ℕ → List ℕ → Data → Result (List ℕ) Reason
text_member line field d = kind line field (as_str d)
