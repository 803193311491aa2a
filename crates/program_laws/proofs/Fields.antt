-- The fields of an object, ranges, digests and names.
use Rattle.std.proofs.Common.{Err, List, None, Ok, Option, Result, Some, is_some, nat_le, option_and_then, position, ℕ, ◌&&◌}
use Rattle.std.specs.Str.{is_utf8, bytes_eq}
use Rattle.serde_json.specs.Data.{Data, Items}
use Rattle.serde_json.specs.Read.{read}
use Rattle.serde_json.specs.Find.{get, as_number, as_u64, as_str, as_array, as_object}
use Rattle.command_input.specs.declared.reason.Reason.{Reason}
use Rattle.command_input.specs.declared.reason.Reason.TheVariants.{NotJson, Missing, WrongKind, UnknownField, OverLimit, WrongHex, Unknown}
use Rattle.hex.specs.Hex.{decode_sized}
use Rattle.hex.specs.declared.error.FromHexError.{FromHexError}
use Rattle.offer_moves.specs.Fields.{object_or, parse_data, kind, present, needed, field_number, field_text, field_word, optional_number, optional_field_number}
use Rattle.offer_moves.specs.Fields.{first_unknown, no_unknown, only, listed, each, read_array_field, field_list, required_object, optional_text, optional_field_text}
use Rattle.offer_moves.specs.Fields.{text_member}
use Rattle.offer_moves.specs.FieldLimits.{check_range, ranged_number, decoded, to_digest}
use Rattle.offer_moves.specs.Names.{found_place, party_of_name}
use Rattle.program_laws.proofs.Bare.{Bare, onward, landed, refused, choose, each_of_bare}

pub object_or_bare : (line : ℕ) (x1 : Option Data) → Bare (object_or line x1)
object_or_bare line (Some d) = choose (is_some (as_object d)) _ _ (landed _) (refused (NotJson line) tt)
object_or_bare line None = refused (NotJson line) tt

pub object_of_bare : (line : ℕ) (text : List ℕ) → Bare (parse_data line text)
unfolding parse_data
object_of_bare line text = choose (is_utf8 text) _ _ (object_or_bare line (read text)) (refused (NotJson line) tt)

pub kind_bare : {A : Type 0} (line : ℕ) (field : List ℕ) (x2 : Option A) → Bare (kind line field x2)
kind_bare line field (Some x) = landed _
kind_bare line field None = refused (WrongKind line field) tt

pub present_bare : {A : Type 0} (line : ℕ) (field : List ℕ) (x2 : Option A) → Bare (present line field x2)
present_bare line field (Some x) = landed _
present_bare line field None = refused (Missing line field) tt

pub needed_bare : (line : ℕ) (field : List ℕ) (d : Data) → Bare (needed line field d)
unfolding needed
needed_bare line field d = present_bare line field (get field d)

pub number_at_bare : (line : ℕ) (field : List ℕ) (d : Data) → Bare (field_number line field d)
unfolding field_number
number_at_bare line field d =
    onward (needed line field d) _ (needed_bare line field d) (λ value. kind_bare line field (option_and_then as_u64 (as_number value)))

pub text_at_bare : (line : ℕ) (field : List ℕ) (d : Data) → Bare (field_text line field d)
unfolding field_text
text_at_bare line field d = onward (needed line field d) _ (needed_bare line field d) (λ value. kind_bare line field (as_str value))

pub word_at_bare : {A : Type 0} (line : ℕ) (field : List ℕ) (choice_word : List ℕ → Option A) (d : Data) → Bare (field_word line field choice_word d)
word_at_bare line field choice_word d = onward (field_text line field d) _ (text_at_bare line field d) (λ word. kind_bare line field (choice_word word))

pub optional_number_bare : (line : ℕ) (field : List ℕ) (x2 : Option Data) → Bare (optional_number line field x2)
optional_number_bare line field None = landed _
optional_number_bare line field (Some d) =
    onward (kind line field (option_and_then as_u64 (as_number d))) _ (kind_bare line field (option_and_then as_u64 (as_number d))) (λ n. landed _)

pub optional_number_at_bare : (line : ℕ) (field : List ℕ) (d : Data) → Bare (optional_field_number line field d)
unfolding optional_field_number
optional_number_at_bare line field d = optional_number_bare line field (get field d)

pub no_unknown_bare : (line : ℕ) (x1 : Option (List ℕ)) → Bare (no_unknown line x1)
no_unknown_bare line (Some k) = refused (UnknownField line k) tt
no_unknown_bare line None = landed _

pub only_bare : (line : ℕ) (allowed : List (List ℕ)) (d : Data) → Bare (only line allowed d)
unfolding only
only_bare line allowed d = no_unknown_bare line (option_and_then (first_unknown allowed) (as_object d))

pub array_at_bare : (line : ℕ) (field : List ℕ) (d : Data) → Bare (read_array_field line field d)
unfolding read_array_field
array_at_bare line field d = onward (needed line field d) _ (needed_bare line field d) (λ value. kind_bare line field (as_array value))

pub object_at_bare : (line : ℕ) (field : List ℕ) (d : Data) → Bare (required_object line field d)
unfolding required_object
object_at_bare line field d = choose (is_some (as_object d)) _ _ (landed _) (refused (WrongKind line field) tt)

pub optional_text_bare : (line : ℕ) (field : List ℕ) (x2 : Option Data) → Bare (optional_text line field x2)
optional_text_bare line field None = landed _
optional_text_bare line field (Some d) = onward (kind line field (as_str d)) _ (kind_bare line field (as_str d)) (λ s. landed _)

pub optional_text_at_bare : (line : ℕ) (field : List ℕ) (d : Data) → Bare (optional_field_text line field d)
unfolding optional_field_text
optional_text_at_bare line field d = optional_text_bare line field (get field d)

pub member_text_of_bare : (line : ℕ) (field : List ℕ) (d : Data) → Bare (text_member line field d)
unfolding text_member
member_text_of_bare line field d = kind_bare line field (as_str d)

pub within_bare : (line : ℕ) (field : List ℕ) (low : ℕ) (high : ℕ) (n : ℕ) → Bare (check_range line field low high n)
unfolding check_range
within_bare line field low high n = choose (nat_le low n && nat_le n high) _ _ (landed _) (refused (OverLimit line field n) tt)

pub number_within_bare : (line : ℕ) (field : List ℕ) (low : ℕ) (high : ℕ) (n : ℕ) → Bare (ranged_number line field low high n)
unfolding ranged_number
number_within_bare line field low high n = onward (check_range line field low high n) _ (within_bare line field low high n) (λ u. landed _)

pub decoded_bare : (line : ℕ) (field : List ℕ) (x2 : Result (List ℕ) FromHexError) → Bare (decoded line field x2)
decoded_bare line field (Ok bytes) = landed _
decoded_bare line field (Err e) = refused (WrongHex line field) tt

pub digest_of_bare : (line : ℕ) (field : List ℕ) (text : List ℕ) → Bare (to_digest line field text)
unfolding to_digest
digest_of_bare line field text = decoded_bare line field (decode_sized text 32)

pub found_bare : (line : ℕ) (name : List ℕ) (x2 : Option ℕ) → Bare (found_place line name x2)
found_bare line name (Some k) = landed _
found_bare line name None = refused (Unknown line name) tt

pub party_of_name_bare : (line : ℕ) (names : List (List ℕ)) (name : List ℕ) → Bare (party_of_name line names name)
unfolding party_of_name
party_of_name_bare line names name = found_bare line name (position (bytes_eq name) names)

pub each_bare : {A : Type 0} (f : Data → Result A Reason) → ((d : Data) → Bare (f d)) → (ds : Items) → Bare (each f ds)
unfolding each
each_bare f h ds = each_of_bare f h (listed ds)

pub list_at_bare : {A : Type 0} (line : ℕ) (field : List ℕ) (f : Data → Result A Reason) → ((d : Data) → Bare (f d)) → (d : Data)
    → Bare (field_list line field f d)
unfolding field_list
list_at_bare line field f h d = onward (read_array_field line field d) _ (array_at_bare line field d) (λ items. each_bare f h items)
