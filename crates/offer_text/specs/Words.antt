-- The JSON of the words of a header: names, numbers, digests and lists.
use Rattle.std.specs.Prelude.{◌≡◌, ℕ, List, [], map, Option, Some, None, slice_index_or, All}
use Rattle.std.specs.Str.{IsUtf8}
use Rattle.std.specs.Ordering.{nat_cmp}
use Rattle.std.specs.declared.cmp.Ordering.TheVariants.{Less}
use Rattle.std.specs.Cmp.Lexicographic.{slice_cmp}
use Rattle.hex.specs.Hex.{encode_lower}
use Rattle.serde_json.specs.Data.{Data, number, unsigned, string, array, Members, no_members, member}
use Rattle.serde_json.specs.View.{items_of}

abbrev pub number_data : ℕ → Data
number_data n = number (unsigned n)

-- the hexadecimal digits, in lower case
abbrev pub digest_data : List ℕ → Data
digest_data bytes = string (encode_lower bytes)

-- the name of party p
abbrev pub name_data : List (List ℕ) → ℕ → Data
name_data names p = string (slice_index_or names p [])

abbrev pub list_data : {A : Type 0} → (A → Data) → List A → Data
list_data f xs = array (items_of (map f xs))

-- with a field, where its value is there
abbrev pub with_optional : {A : Type 0} → List ℕ → (A → Data) → Option A → Members → Members
with_optional field f None ms = ms
with_optional field f (Some x) ms = member field (f x) ms

-- a field that stands before these in the order of their bytes
abbrev pub IsBelow : List ℕ → Members → Type 0
IsBelow field no_members = Unit {0}
IsBelow field (member other d ms) = slice_cmp nat_cmp field other ≡ Less

-- each name is text
abbrev pub AreTexts : List (List ℕ) → Type 0
AreTexts names = All IsUtf8 names
