-- The object that a line is.
use Rattle.std.proofs.Common.{◌≡◌, ℕ, List, Bool, true, false, Ok, Err, Option, Some, None, refl, cond, ◌∙◌}
use Rattle.std.specs.Str.{IsUtf8, is_utf8}
use Rattle.std.proofs.lemmas.Str.{IsUtf8-from_is_utf8, is_utf8-from_IsUtf8}
use Rattle.serde_json.specs.Data.{Data}
use Rattle.serde_json.specs.Read.{read}
use Rattle.serde_json.specs.Find.{as_object}
use Rattle.std.specs.Prelude.{is_some}
use Rattle.command_input.specs.declared.reason.Reason.TheVariants.{NotJson}
use Rattle.offer_moves.specs.Fields.{object_or, parse_data}

read_as : (line : ℕ) (text : List ℕ) (d : Data) → IsUtf8 text → read text ≡ Some d → parse_data line text ≡ object_or line (Some d)
unfolding parse_data
read_as line text d utf8 e = rw (is_utf8-from_IsUtf8 text utf8, e) refl

by_test : (line : ℕ) (b : Bool) (o : Option Data) → (b ≡ true → o ≡ None) → cond b (object_or line o) (Err (NotJson line)) ≡ Err (NotJson line)
by_test line true o h = rw (h refl) refl
by_test line false o h = refl

pub refused : (line : ℕ) (text : List ℕ) → (IsUtf8 text → read text ≡ None) → parse_data line text ≡ Err (NotJson line)
unfolding parse_data
refused line text h = by_test line (is_utf8 text) (read text) (λ b. h (IsUtf8-from_is_utf8 text b))

pub is_read : (line : ℕ) (text : List ℕ) (d : Data) → IsUtf8 text × (read text ≡ Some d) → is_some (as_object d) ≡ true → parse_data line text ≡ Ok d
is_read line text d h e = read_as line text d h.0 h.1 ∙ rw e refl

pub is_no_object : (line : ℕ) (text : List ℕ) (d : Data) → IsUtf8 text × (read text ≡ Some d) → is_some (as_object d) ≡ false
    → parse_data line text ≡ Err (NotJson line)
is_no_object line text d h e = read_as line text d h.0 h.1 ∙ rw e refl
